-- What was looked up of an owner's deposits, by number: the next of them, and the reference of one.
use Rattle.store.proofs.Words.{Bool, Contains, Contains-get_or, Contains-permutation, DepositRow, Global, History}
use Rattle.store.proofs.Words.{HoldsAt, IsFoundAs, IsLeastAs, IsNonDecreasingBy, IsPartitionPoint, IsPermutation-sym}
use Rattle.store.proofs.Words.{Label, List, None, Option, ShowsDepositSerial, ShowsReference, Some, String, []}
use Rattle.store.proofs.Words.{and_parts, ap, arith, at_from_Contains, bytes_eq, cases_Bool, cond, eq-eqb, eqb-true}
use Rattle.store.proofs.Words.{false, filter, get_or, get_or-map, inl, inr, is_owned, is_owned_after, is_owned_by}
use Rattle.store.proofs.Words.{label_of, label_view, leb, leb-false, leb-true, length, length-map, lt-ltb, ltb}
use Rattle.store.proofs.Words.{ltb-false, ltb-true, map, nat_lt, refl, string_bytes, subst, subst₂, suc, sym, true}
use Rattle.store.proofs.Words.{zero, ℕ, ◌++◌, ◌<◌, ◌==◌, ◌∙◌, ◌∷◌, ◌≡◌, ◌≤◌}
use Rattle.store.proofs.CursorMoves.{any_default}
use Rattle.store.proofs.Members.{member_after, member_cases, member_here, no_member}
use Rattle.store.specs.auxiliary.Steps.{AreLabels, AreOwned}
use Rattle.store.specs.{auxiliary.Replay.replayed, declared.labels.Owned.Owned}

map_member : {X Y : Type 0} (f : X → Y) (xs : List X) (y : X) → Contains xs y → Contains (map f xs) (f y)
map_member f [] y m = absurd (no_member y m)
map_member f (x ∷ xs) y m =
    elim (member_cases x y xs m) [
      | inl same ↦ subst (λ z. Contains (map f (x ∷ xs)) (f z)) same (member_here (f x) (map f xs))
      | inr later ↦ member_after (f x) (f y) (map f xs) (map_member f xs y later)
    ]

member_image : {X Y : Type 0} (f : X → Y) (xs : List X) (y : Y) → Contains (map f xs) y
    → (x : X) × Contains xs x × (f x ≡ y)
member_image f [] y m = absurd (no_member y m)
member_image f (x ∷ xs) y m =
    elim (member_cases (f x) y (map f xs) m) [
      | inl same ↦ (x, member_here x xs, same)
      | inr later ↦ (let found = member_image f xs y later in (found.0, member_after x found.0 xs found.1, found.2))
    ]

filter_member : {X : Type 0} (p : X → Bool) (xs : List X) (y : X) → Contains xs y → p y ≡ true
    → Contains (filter p xs) y
filter_member p [] y m t = absurd (no_member y m)
filter_member {X} p (x ∷ xs) y m t =
    elim (member_cases x y xs m) [
      | inl same ↦ subst (λ z. Contains (filter p (x ∷ xs)) z) same (here (p x) (ap p same ∙ t))
      | inr later ↦ beside (p x) (filter_member p xs y later t)
    ] where
      here : (v : Bool) → v ≡ true → Contains (cond v (x ∷ filter p xs) (filter p xs)) x
      here true e = member_here x (filter p xs)
      here false e = absurd cc

      beside : (v : Bool) → Contains (filter p xs) y → Contains (cond v (x ∷ filter p xs) (filter p xs)) y
      beside true k = member_after x y (filter p xs) k
      beside false k = k

member_filter : {X : Type 0} (p : X → Bool) (xs : List X) (y : X) → Contains (filter p xs) y
    → Contains xs y × (p y ≡ true)
member_filter p [] y m = absurd (no_member y m)
member_filter {X} p (x ∷ xs) y m = go (p x) refl (λ later. member_filter p xs y later) m where
  go : (v : Bool) → p x ≡ v → (Contains (filter p xs) y → Contains xs y × (p y ≡ true))
      → Contains (cond v (x ∷ filter p xs) (filter p xs)) y → Contains (x ∷ xs) y × (p y ≡ true)
  go true e among k =
      elim (member_cases x y (filter p xs) k) [
        | inl same ↦ (subst (λ z. Contains (x ∷ xs) z) same (member_here x xs), ap p (sym same) ∙ e)
        | inr later ↦ (let found = among later in (member_after x y xs found.0, found.1))
      ]
  go false e among k = let found = among k in (member_after x y xs found.0, found.1)

-- nobody is known at first
pub none_owned : (b : History) (known : List Owned) → known ≡ [] → AreOwned b known
none_owned b known none k d within =
    let empty : length known ≡ 0 = ap length none in absurd (omega (arith, within, empty))

module _ (owner : List ℕ) (rows : List DepositRow) (labels : List Label) (are : AreLabels owner rows labels) where
  -- each label is of a row
  row_of : (k : ℕ) (d : Label) → k < length labels
      → (x : DepositRow) × Contains rows x × (is_owned_by owner x ≡ true) × ((get_or labels k d).serial ≡ x.serial)
      × (string_bytes (get_or labels k d).reference ≡ x.reference)
  row_of k d within =
      let own = get_or labels k d in
      let there = map_member label_view labels own (Contains-get_or labels k d within) in
      let back = Contains-permutation _ _ (label_view own) (IsPermutation-sym _ _ are.same) there in
      let source = member_image label_of (filter (is_owned_by owner) rows) (label_view own) back in
      let kept = member_filter (is_owned_by owner) rows source.0 source.1 in
      (source.0, kept.0, kept.1, sym (ap (λ l. l.serial) source.2), sym (ap (λ l. l.reference) source.2))

  -- and each row has one
  place_of_row : (x : DepositRow) → Contains rows x → is_owned_by owner x ≡ true
      → Label × (k : ℕ) × (k < length labels) × ((d : Label) → (get_or labels k d).serial ≡ x.serial)
  place_of_row x m t =
      let there = map_member label_of (filter (is_owned_by owner) rows) x
      (filter_member (is_owned_by owner) rows x m t) in
      let moved = Contains-permutation _ _ (label_of x) are.same there in
      let source = member_image label_view labels (label_of x) moved in
      let at = at_from_Contains labels source.0 source.1 in
      (source.0, at.0, at.1, λ d. ap (λ l. l.serial) (at.2 d) ∙ ap (λ l. l.serial) source.2)

  pub rising : IsNonDecreasingBy (λ label. label.serial) labels
  rising i j d below within =
      let inside : j < length (map label_view labels) =
      subst (λ n. j < n) (sym (length-map labels label_view)) within in
      let up = are.rising i j (label_view d) below inside in
      subst₂ (λ m n. m ≤ n)
      (ap (λ l. l.serial) (get_or-map label_view labels i d (label_view d) (omega (arith, below, within))))
      (ap (λ l. l.serial) (get_or-map label_view labels j d (label_view d) within)) up

  module _ (after at : ℕ) (point : IsPartitionPoint (λ label. leb label.serial after ≡ true)
      (λ label. leb label.serial after ≡ false) labels at) where
    -- beyond the point or at it, where a row is after the number
    beyond : (x : DepositRow) → Contains rows x → is_owned_after owner after x ≡ true
        → (k : ℕ) × (k < length labels) × (at ≤ k) × ((d : Label) → (get_or labels k d).serial ≡ x.serial)
    beyond x m t =
        let parts = and_parts (is_owned_by owner x) (nat_lt after x.serial) t in
        let later = ltb-true after x.serial parts.1 in
        let place = place_of_row x m parts.0 in
        let same = place.3 place.0 in
        elim (cases_Bool (nat_lt place.1 at)) [
          | inl before ↦ (let low = ltb-true place.1 at before in
              let not_after = leb-true _ _ (point.0 place.1 place.0 (omega arith) low) in
              absurd (omega (arith, not_after, same, later)))
          | inr f ↦ (let not_before = ltb-false place.1 at f in
              (place.1, place.2, omega (arith, not_before), place.3))
        ]

    pub none_after : length labels ≤ at
        → IsLeastAs ShowsDepositSerial (λ row. row.serial) (is_owned_after owner after) rows None
    none_after past = λ x m.
        elim (cases_Bool (is_owned_after owner after x)) [
          | inl t ↦ (let k = beyond x m t in absurd (omega (arith, past, k.1, k.2)))
          | inr f ↦ f
        ]

    pub first_after : (d : Label) → at < length labels
        → IsLeastAs ShowsDepositSerial (λ row. row.serial) (is_owned_after owner after) rows
        (Some (get_or labels at d).serial)
    first_after d within =
        let row = row_of at d within in
        let later = leb-false _ _ (point.1 at d (omega arith) within) in
        let passes : is_owned_after owner after row.0 ≡ true =
        rw (row.2, lt-ltb after row.0.serial (omega (arith, later, row.3))) refl in
        (row.0, row.1, passes, least, row.3) where
          least : (other : DepositRow) → Contains rows other → is_owned_after owner after other ≡ true
              → (row_of at d within).0.serial ≤ other.serial
          least other m t =
              let k = beyond other m t in
              let up = rising at k.0 d k.2 k.1 in
              let same = (row_of at d within).3 in
              omega (arith, up, same, k.3 d)

  module _ (number at : ℕ) (point : IsPartitionPoint (λ label. ltb label.serial number ≡ true)
      (λ label. ltb label.serial number ≡ false) labels at) where
    -- a row with the number has its label there
    there : (x : DepositRow) → Contains rows x → is_owned number owner x ≡ true
        → (at < length labels) × ((d : Label) → (get_or labels at d).serial ≡ number)
    there x m t =
        let parts = and_parts (x.serial == number) (bytes_eq x.owner owner) t in
        let is : x.serial ≡ number = eqb-true x.serial number parts.0 in
        let place = place_of_row x m parts.1 in
        let same = place.3 place.0 in
        elim (cases_Bool (nat_lt place.1 at)) [
          | inl before ↦ (let low = ltb-true place.1 at before in
              let less = ltb-true _ _ (point.0 place.1 place.0 (omega arith) low) in
              absurd (omega (arith, less, same, is)))
          | inr f ↦ (let not_before = ltb-false place.1 at f in
              let within : at < length labels = omega (arith, not_before, place.2) in
              (within, λ d. at_number d place.1 (omega (arith, not_before)) place.2 (place.3 d ∙ is) within))
        ] where
          at_number : (d : Label) (k : ℕ) → at ≤ k → k < length labels → (get_or labels k d).serial ≡ number
              → at < length labels → (get_or labels at d).serial ≡ number
          at_number d k below inside same within =
              let up = rising at k d below inside in
              let not_less = ltb-false _ _ (point.1 at d (omega arith) within) in
              omega (arith, up, not_less, same)

    pub none_there : length labels ≤ at → IsFoundAs ShowsReference (is_owned number owner) rows None
    none_there past = λ x m.
        elim (cases_Bool (is_owned number owner x)) [
          | inl t ↦ (let found = there x m t in absurd (omega (arith, found.0, past)))
          | inr f ↦ f
        ]

    pub another_there : (d : Label) → number < (get_or labels at d).serial
        → IsFoundAs ShowsReference (is_owned number owner) rows None
    another_there d more = λ x m.
        elim (cases_Bool (is_owned number owner x)) [
          | inl t ↦ (let found = there x m t in absurd (omega (arith, found.1 d, more)))
          | inr f ↦ f
        ]

    pub its_reference : (d : Label) (reference : String Global) → at < length labels
        → (get_or labels at d).serial ≤ number
        → string_bytes reference ≡ string_bytes (get_or labels at d).reference
        → IsFoundAs ShowsReference (is_owned number owner) rows (Some reference)
    its_reference d reference within less same =
        let row = row_of at d within in
        let not_less = ltb-false _ _ (point.1 at d (omega arith) within) in
        let is : (get_or labels at d).serial ≡ number = omega (arith, not_less, less) in
        let passes : is_owned number owner row.0 ≡ true =
        rw (eq-eqb row.0.serial number (sym row.3 ∙ is), row.2) refl in
        (row.0, row.1, passes, same ∙ row.4)

-- one more owner
each_more : (P : Owned → Type 0) (known : List Owned) (one : Owned)
    → ((k : ℕ) (d : Owned) → k < length known → P (get_or known k d)) → P one
    → (k : ℕ) (d : Owned) → k < length (known ++ one ∷ []) → P (get_or (known ++ one ∷ []) k d)
each_more P [] one old new zero d within = new
each_more P [] one old new (suc k) d within = absurd (omega (arith, within))
each_more P (x ∷ xs) one old new zero d within = old 0 d (omega arith)
each_more P (x ∷ xs) one old new (suc k) d within =
    each_more P xs one (λ j e below. old (suc j) e (omega (arith, below))) new k d (omega (arith, within))

pub one_more_owned : (b : History) (known more : List Owned) (one : Owned) (owner : List ℕ) → more ≡ known ++ one ∷ []
    → AreOwned b known → string_bytes one.owner ≡ owner → AreLabels owner (replayed b).deposits one.labels.items
    → AreOwned b more
one_more_owned b known more one owner is owned named labels =
    subst (AreOwned b) (sym is)
    (each_more (λ o. AreLabels (string_bytes o.owner) (replayed b).deposits o.labels.items) known one owned
    (subst (λ o. AreLabels o (replayed b).deposits one.labels.items) (sym named) labels))

-- the owner that stands at a place
pub at_item : (known : List Owned) (place : ℕ) (item : Owned) (owner : List ℕ) → place < length known
    → item ≡ get_or known place item → string_bytes item.owner ≡ owner
    → HoldsAt (λ owned. string_bytes owned.owner ≡ owner) known place
at_item known place item owner within is named = λ d.
    ap (λ (o : Owned). string_bytes o.owner) (any_default known place d item within ∙ sym is) ∙ named

module _ (b : History) (owner : List ℕ) (known : List Owned) (place : ℕ) (item : Owned) (owned : AreOwned b known)
    (within : place < length known) (names : HoldsAt (λ one. string_bytes one.owner ≡ owner) known place)
    (is : item ≡ get_or known place item) where
  named : string_bytes item.owner ≡ owner
  named = ap (λ (o : Owned). string_bytes o.owner) is ∙ names item

  labels_at : AreLabels (string_bytes item.owner) (replayed b).deposits item.labels.items
  labels_at = subst (λ (o : Owned). AreLabels (string_bytes o.owner) (replayed b).deposits o.labels.items) (sym is)
      (owned place item within)

  pub next_at : (after : ℕ) (next : Option ℕ)
      → ((rows : List DepositRow) → AreLabels (string_bytes item.owner) rows item.labels.items
      → IsLeastAs ShowsDepositSerial (λ row. row.serial) (is_owned_after (string_bytes item.owner) after) rows next)
      → IsLeastAs ShowsDepositSerial (λ row. row.serial) (is_owned_after owner after) (replayed b).deposits next
  next_at after next told =
      subst (λ o. IsLeastAs ShowsDepositSerial (λ row. row.serial) (is_owned_after o after) (replayed b).deposits next)
      named (told (replayed b).deposits labels_at)

  pub reference_at : (number : ℕ) (found : Option (String Global))
      → ((rows : List DepositRow) → AreLabels (string_bytes item.owner) rows item.labels.items
      → IsFoundAs ShowsReference (is_owned number (string_bytes item.owner)) rows found)
      → IsFoundAs ShowsReference (is_owned number owner) (replayed b).deposits found
  reference_at number found told =
      subst (λ o. IsFoundAs ShowsReference (is_owned number o) (replayed b).deposits found) named
      (told (replayed b).deposits labels_at)
