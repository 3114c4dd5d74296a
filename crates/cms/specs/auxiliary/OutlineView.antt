-- What an outline in octets is.
use Rattle.der.specs.DataValueView.{value_view, values_view}
use Rattle.cms.specs.auxiliary.Outline as outline
use Rattle.cms.specs.declared.outline.Outline.{Outline}

abbrev pub outline_view : Outline → outline.Outline
outline_view o = record {
  serial = value_view o.serial;
  after_serial = values_view o.after_serial;
  issuer = value_view o.issuer;
  after_issuer = values_view o.after_issuer;
  subject = value_view o.subject;
  after_subject = values_view o.after_subject;
  after = values_view o.after;
}
