-- A refusal is told by its number and spot: they name one fault.
use Rattle.plan.proofs.Prelude.{◌≡◌, refl, sym, ap, ap₂, ◌∙◌, subst, ◌↔◌, [], ◌∷◌, ℕ, get_or, number, spot, RefusedBy, Fault, TableShort, Truncated}
use Rattle.plan.proofs.Prelude.{UnknownCommand, OutOfOrder, TooMany, EmptyRule, AbsentRule, BadEdge, TrailingBytes, RuleInNoUnit, HeadedRuleInSeveral}
use Rattle.plan.proofs.Prelude.{Cycle, NonmonotonicUnseen, MonotonicUnseen, LongList, GivenInHead, BadTable, BadUse, ContradictoryBody, WrongCount}
use Rattle.plan.specs.Faults.{Outcome, Refused}

-- the faults with this spot, by their numbers; none has the number 0
abbrev fault_at : ℕ → ℕ → Fault
fault_at n s =
    get_or
    (TableShort s
    ∷ TableShort s
    ∷ Truncated s
    ∷ UnknownCommand s
    ∷ OutOfOrder s
    ∷ TooMany s
    ∷ EmptyRule s
    ∷ AbsentRule s
    ∷ BadEdge s
    ∷ TrailingBytes s
    ∷ RuleInNoUnit s
    ∷ HeadedRuleInSeveral s
    ∷ Cycle s
    ∷ NonmonotonicUnseen s
    ∷ MonotonicUnseen s
    ∷ LongList s
    ∷ GivenInHead s
    ∷ TableShort s
    ∷ BadTable s
    ∷ BadUse s
    ∷ TableShort s
    ∷ ContradictoryBody s
    ∷ TableShort s
    ∷ WrongCount s
    ∷ [])
    n (TableShort s)

fault_told : (f : Fault) → fault_at (number f) (spot f) ≡ f
fault_told (TableShort s) = refl
fault_told (Truncated s) = refl
fault_told (UnknownCommand s) = refl
fault_told (OutOfOrder s) = refl
fault_told (TooMany s) = refl
fault_told (EmptyRule s) = refl
fault_told (AbsentRule s) = refl
fault_told (BadEdge s) = refl
fault_told (TrailingBytes s) = refl
fault_told (RuleInNoUnit s) = refl
fault_told (HeadedRuleInSeveral s) = refl
fault_told (Cycle s) = refl
fault_told (NonmonotonicUnseen s) = refl
fault_told (MonotonicUnseen s) = refl
fault_told (LongList s) = refl
fault_told (GivenInHead s) = refl
fault_told (BadTable s) = refl
fault_told (BadUse s) = refl
fault_told (ContradictoryBody s) = refl
fault_told (WrongCount s) = refl

pub refused_by : (f : Fault) {outcome : Outcome} → RefusedBy outcome (number f) (spot f) ↔ (outcome ≡ Refused f)
refused_by f = (
  λ r. r.is ∙ ap Refused (sym (fault_told r.fault) ∙ ap₂ fault_at r.number_is r.spot_is ∙ fault_told f),
  λ e. record { fault = f; is = e; number_is = refl; spot_is = refl },
)

-- a refusal has the number and spot of its fault
pub told : {f : Fault} {n s : ℕ} → RefusedBy (Refused f) n s → (number f ≡ n) × (spot f ≡ s)
told {f} r = let same : f ≡ r.fault = let e = r.is in cc in (ap number same ∙ r.number_is, ap spot same ∙ r.spot_is)

pub refused_for : {o p : Outcome} {n s : ℕ} → o ≡ p → RefusedBy o n s → RefusedBy p n s
refused_for {n = n} {s = s} e r = subst (λ (x : Outcome). RefusedBy x n s) e r
