-- What the types stand for.
use Rattle.std.specs.Prelude.{option_map}
use Rattle.der.specs.DataValueView.{value_view}
use Rattle.tsp.specs.Request.{ImprintValue, ExtensionValue, RequestValue}
use Rattle.tsp.specs.{Tst.TstValue, declared.request.Request.Request, declared.tst.TstInfo.TstInfo}
use Rattle.tsp.specs.declared.{imprint.MessageImprint.MessageImprint, extensions.Extension.Extension}

abbrev pub imprint_view : MessageImprint → ImprintValue
imprint_view imprint = record {
  algorithm = imprint.algorithm;
  parameters = option_map value_view imprint.parameters;
  hash = imprint.hash.now;
}

abbrev pub extension_view : Extension → ExtensionValue
extension_view extension = record {
  identifier = extension.identifier;
  critical = extension.critical;
  value = extension.value.now;
}

abbrev pub request_view : Request → RequestValue
request_view request = record {
  version = request.version;
  imprint = imprint_view request.imprint;
  policy = request.policy;
  nonce = request.nonce;
  cert_req = request.cert_req;
  extensions = request.extensions;
}

abbrev pub tst_view : TstInfo → TstValue
tst_view tst = record {
  policy = tst.policy;
  imprint = imprint_view tst.imprint;
  serial = tst.serial;
  gen_time = tst.gen_time;
  accuracy = tst.accuracy;
  ordering = tst.ordering;
  nonce = tst.nonce;
  tsa = option_map value_view tst.tsa;
  extensions = tst.extensions;
}
