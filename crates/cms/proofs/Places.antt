-- Where a certificate's issuer, serial number and subject stand in its octets.
use Rattle.std.proofs.Common.{◌≡◌, ℕ, ◌+◌, ◌-◌, ◌≤◌, List, [], ◌∷◌, ◌++◌, Option, Some, None, length, take, drop}
use Rattle.std.proofs.Common.{slice_range, refl, sym, ap, ◌∙◌, append_assoc, arith}
use Rattle.std.proofs.{lemmas.List.length-append, Math.Seq.take-append_seam, Math.Seq.drop-append_seam}
use Rattle.der.specs.Node.{Node, constructed, Nodes, node, encoding, encodings, length_octets}
use Rattle.cms.specs.{Place.IsPlace, declared.place.Place.Place}
use Rattle.cms.specs.Certificate.{CertificateParts, with_version, serial_number, issuer_name, subject_name}
use Rattle.cms.specs.Certificate.{after_serial, after_issuer, certificate}

-- octets stand where those before and after them say
pub slice_of_part : (whole front part back : List ℕ) (start end : ℕ) → whole ≡ front ++ (part ++ back)
    → start ≡ length front → end ≡ length front + length part
    → slice_range whole start end ≡ part
slice_of_part whole front part back start end is starts ends =
    let count : end - start ≡ length part = omega arith in
    ap (λ octets. take (end - start) (drop start octets)) is
    ∙ ap (λ k. take (end - start) (drop k (front ++ (part ++ back)))) starts
    ∙ ap (take (end - start)) (drop-append_seam front (part ++ back)) ∙ ap (λ k. take k (part ++ back)) count
    ∙ take-append_seam part back

-- a part of octets, by what stands before and after it
pub record StandsIn (part back whole : List ℕ) : Type 0 where
  pub front : List ℕ
  pub is : whole ≡ front ++ (part ++ back)

-- identifier and length octets
abbrev header : List ℕ → List ℕ
header contents = 48 ∷ length_octets (length contents)

version_front : (version : Option Nodes) (ns : Nodes)
    → (front : List ℕ) × (encodings (with_version version ns) ≡ front ++ encodings ns)
version_front None ns = ([], refl)
version_front (Some inside) ns = (encoding (constructed 160 inside), refl)

regroup : (h k v s r z : List ℕ) → h ++ ((k ++ (v ++ (s ++ r))) ++ z) ≡ (h ++ (k ++ v)) ++ (s ++ (r ++ z))
regroup h k v s r z = simp append_assoc

pub serial_stands : (p : CertificateParts)
    → StandsIn (encoding (serial_number p)) (encodings (after_serial p) ++ encodings p.after) (encoding (certificate p))
serial_stands p =
    let inside = encodings (with_version p.version (node (serial_number p) (after_serial p))) in
    let version = version_front p.version (node (serial_number p) (after_serial p)) in
    let contents = (header inside ++ inside) ++ encodings p.after in
    record {
      front = header contents ++ (header inside ++ version.0);
      is = ap (λ octets. header contents ++ ((header inside ++ octets) ++ encodings p.after)) version.1
          ∙ regroup (header contents) (header inside) version.0 (encoding (serial_number p))
          (encodings (after_serial p)) (encodings p.after);
    }

regroup_later : (f s a i r z : List ℕ) → f ++ (s ++ ((a ++ (i ++ r)) ++ z)) ≡ (f ++ (s ++ a)) ++ (i ++ (r ++ z))
regroup_later f s a i r z = simp append_assoc

pub issuer_stands : (p : CertificateParts)
    → StandsIn (encoding (issuer_name p)) (encodings (after_issuer p) ++ encodings p.after) (encoding (certificate p))
issuer_stands p =
    let serial = serial_stands p in
    record {
      front = serial.front ++ (encoding (serial_number p) ++ encoding (constructed 48 p.signature));
      is = serial.is ∙ regroup_later serial.front (encoding (serial_number p)) (encoding (constructed 48 p.signature))
          (encoding (issuer_name p)) (encodings (after_issuer p)) (encodings p.after);
    }

pub subject_stands : (p : CertificateParts)
    → StandsIn (encoding (subject_name p)) (encodings p.further ++ encodings p.after) (encoding (certificate p))
subject_stands p =
    let issuer = issuer_stands p in
    record {
      front = issuer.front ++ (encoding (issuer_name p) ++ encoding (constructed 48 p.validity));
      is = issuer.is ∙ regroup_later issuer.front (encoding (issuer_name p)) (encoding (constructed 48 p.validity))
          (encoding (subject_name p)) (encodings p.further) (encodings p.after);
    }

total_of : (octets whole later last : List ℕ) (n : Node) (a b : Nodes) → octets ≡ whole
    → (stands : StandsIn (encoding n) (encodings a ++ encodings b) whole)
    → later ≡ encodings a → last ≡ encodings b
    → length octets ≡ length stands.front + (length (encoding n) + (length later + length last))
total_of octets whole later last n a b is stands later_is last_is =
    ap length is ∙ ap length stands.is ∙ length-append stands.front (encoding n ++ (encodings a ++ encodings b))
    ∙ ap (λ k. length stands.front + k) (length-append (encoding n) (encodings a ++ encodings b)
    ∙ ap (λ k. length (encoding n) + k) (length-append (encodings a) (encodings b)
    ∙ ap (λ k. k + length (encodings b)) (ap length (sym later_is))
    ∙ ap (λ k. length later + k) (ap length (sym last_is))))

-- A part whose end and beginning are told by how many octets stand after it.
pub place_is : (octets whole part later last : List ℕ) (n : Node) (a b : Nodes) (place : Place) → octets ≡ whole
    → StandsIn (encoding n) (encodings a ++ encodings b) whole
    → part ≡ encoding n → later ≡ encodings a → last ≡ encodings b → place.start + length part ≡ place.end
    → place.end + length later + length last ≡ length octets
    → IsPlace octets n place
place_is octets whole part later last n a b place is stands part_is later_is last_is starts ends =
    let total = total_of octets whole later last n a b is stands later_is last_is in
    let size : length part ≡ length (encoding n) = ap length part_is in
    record {
      ordered = omega arith;
      within = omega arith;
      stands = slice_of_part octets stands.front (encoding n) (encodings a ++ encodings b) place.start place.end
          (is ∙ stands.is) (omega arith) (omega arith);
    }

-- there is room for it
pub place_fits : (octets whole part later last : List ℕ) (n : Node) (a b : Nodes) → octets ≡ whole
    → StandsIn (encoding n) (encodings a ++ encodings b) whole → part ≡ encoding n
    → later ≡ encodings a → last ≡ encodings b → length part + length later + length last ≤ length octets
place_fits octets whole part later last n a b is stands part_is later_is last_is =
    let total = total_of octets whole later last n a b is stands later_is last_is in
    let size : length part ≡ length (encoding n) = ap length part_is in
    omega arith
