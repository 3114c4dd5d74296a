use Rattle.std.proofs.Common.{ap, ◌∙◌}
use Rattle.der.specs.Node.{encoding, encodings}
use Rattle.cms.specs.Certificate.{serial_number, issuer_name, subject_name, after_serial, after_issuer, certificate}
use Rattle.cms.specs.auxiliary.Outline.{Outline}
use Rattle.cms.proofs.Places.{place_is, place_fits, issuer_stands, serial_stands, subject_stands}
use Rattle.cms.proofs.place.places_in.Goals as goal

pub place_of-requires : goal.place_of-requires
place_of-requires c =
    let (p, found) = c.in_ok-outline.ensures.found in
    let o = c.in_ok-outline.outline in
    let issuer = (c.encodings_are_read.ensures.lawful _ o.issuer.lawful).1
    ∙ ap encoding (ap (λ (x : Outline). x.issuer) found.1) in
    let later = (c.encodings_are_read.ensures.all_lawful _ o.after_issuer.lawful).2
    ∙ ap encodings (ap (λ (x : Outline). x.after_issuer) found.1) in
    let last = (c.encodings_are_read.ensures.all_lawful _ o.after.lawful).2
    ∙ ap encodings (ap (λ (x : Outline). x.after) found.1) in
    place_fits c.args.octets.now (encoding (certificate p)) _ _ _ (issuer_name p) (after_issuer p) p.after
    found.0.encoded (issuer_stands p) issuer later last

pub place_of-requires-2 : goal.place_of-requires-2
place_of-requires-2 c =
    let (p, found) = c.in_ok-outline.ensures.found in
    let o = c.in_ok-outline.outline in
    let serial = (c.encodings_are_read.ensures.lawful _ o.serial.lawful).1
    ∙ ap encoding (ap (λ (x : Outline). x.serial) found.1) in
    let after = (c.encodings_are_read.ensures.all_lawful _ o.after_serial.lawful).2
    ∙ ap encodings (ap (λ (x : Outline). x.after_serial) found.1) in
    let last = (c.encodings_are_read.ensures.all_lawful _ o.after.lawful).2
    ∙ ap encodings (ap (λ (x : Outline). x.after) found.1) in
    place_fits c.args.octets.now (encoding (certificate p)) _ _ _ (serial_number p) (after_serial p) p.after
    found.0.encoded (serial_stands p) serial after last

pub place_of-requires-3 : goal.place_of-requires-3
place_of-requires-3 c =
    let (p, found) = c.in_ok-outline.ensures.found in
    let o = c.in_ok-outline.outline in
    let subject = (c.encodings_are_read.ensures.lawful _ o.subject.lawful).1
    ∙ ap encoding (ap (λ (x : Outline). x.subject) found.1) in
    let after = (c.encodings_are_read.ensures.all_lawful _ o.after_subject.lawful).2
    ∙ ap encodings (ap (λ (x : Outline). x.after_subject) found.1) in
    let last = (c.encodings_are_read.ensures.all_lawful _ o.after.lawful).2
    ∙ ap encodings (ap (λ (x : Outline). x.after) found.1) in
    place_fits c.args.octets.now (encoding (certificate p)) _ _ _ (subject_name p) p.further p.after
    found.0.encoded (subject_stands p) subject after last

pub returns-clause-only : goal.returns-clause-only
returns-clause-only c = λ p is.
    let same = c.in_ok-outline.ensures.only p is in
    let o = c.in_ok-outline.outline in
    let issuer = (c.encodings_are_read.ensures.lawful _ o.issuer.lawful).1
    ∙ ap encoding (ap (λ (x : Outline). x.issuer) same) in
    let later = (c.encodings_are_read.ensures.all_lawful _ o.after_issuer.lawful).2
    ∙ ap encodings (ap (λ (x : Outline). x.after_issuer) same) in
    let last = (c.encodings_are_read.ensures.all_lawful _ o.after.lawful).2
    ∙ ap encodings (ap (λ (x : Outline). x.after) same) in
    let serial = (c.encodings_are_read.ensures.lawful _ o.serial.lawful).1
    ∙ ap encoding (ap (λ (x : Outline). x.serial) same) in
    let after = (c.encodings_are_read.ensures.all_lawful _ o.after_serial.lawful).2
    ∙ ap encodings (ap (λ (x : Outline). x.after_serial) same) in
    let subject = (c.encodings_are_read.ensures.lawful _ o.subject.lawful).1
    ∙ ap encoding (ap (λ (x : Outline). x.subject) same) in
    let after_subject = (c.encodings_are_read.ensures.all_lawful _ o.after_subject.lawful).2
    ∙ ap encodings (ap (λ (x : Outline). x.after_subject) same) in
    record {
      issuer_stands = place_is c.args.octets.now (encoding (certificate p)) _ _ _ (issuer_name p) (after_issuer p)
          p.after c.place_of.result is.encoded (issuer_stands p) issuer later last c.place_of.ensures.start
          c.place_of.ensures.end;
      serial_stands = place_is c.args.octets.now (encoding (certificate p)) _ _ _ (serial_number p) (after_serial p)
          p.after c.place_of-2.result is.encoded (serial_stands p) serial after last c.place_of-2.ensures.start
          c.place_of-2.ensures.end;
      subject_stands = place_is c.args.octets.now (encoding (certificate p)) _ _ _ (subject_name p) p.further
          p.after c.place_of-3.result is.encoded (subject_stands p) subject after_subject last
          c.place_of-3.ensures.start c.place_of-3.ensures.end;
    }

pub returns-clause-found : goal.returns-clause-found
returns-clause-found c =
    let (p, found) = c.in_ok-outline.ensures.found in
    (p, (found.0, returns-clause-only c p found.0))
