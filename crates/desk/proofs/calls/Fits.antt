-- Outcomes that fit, where they compute.
use Rattle.std.proofs.Common.{◌≡◌, inl, inr, sym, subst}
use Rattle.book.specs.{declared.fault.StoreFault.StoreFault, Fault.IsOfStorage}
use Rattle.book.specs.declared.fault.StoreFault.TheVariants as store
use Rattle.desk.specs.{Calls.call_of, Fit.IsUncounted, Fit.IsUnfailed, Fit.HasNoneFailed, Outcome.Fine, Outcome.Outcome}

-- no call was refused for a cause that is counted
pub none_failed : (o : Outcome) → IsUncounted o.searching → IsUncounted o.looking → IsUncounted o.counting
    → IsUncounted o.growing → IsUncounted o.adding → IsUnfailed o.signing → IsUncounted o.wrapping
    → IsUncounted o.sealing → HasNoneFailed o
none_failed o a b c d e f g h = record {
  searching = a;
  looking = b;
  counting = c;
  growing = d;
  adding = e;
  signing = f;
  wrapping = g;
  sealing = h;
}

-- what holds of both of the store's own refusals
pub by_storage : (P : StoreFault → Type 0) → P store.Memory → P store.Database → (f : StoreFault) → IsOfStorage f → P f
by_storage P memory database f (inl e) = subst P (sym e) memory
by_storage P memory database f (inr e) = subst P (sym e) database

-- what the store refuses is refused
pub is_refused : (fault : StoreFault) → IsOfStorage fault → call_of fault ≡ Fine → ⊥
is_refused = by_storage (λ f. call_of f ≡ Fine → ⊥) (λ fine. cc) (λ fine. cc)
