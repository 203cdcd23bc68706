-- Rules with a wide head: where a rule stands it stands alone, and what a loop over the rules finds.
use Rattle.atoms.proofs.Kit.{leb, leb-true, le-leb}
use Rattle.atoms.proofs.Tests.{decides}
use Rattle.narrowing.specs.Wide.{SomeWide, WIDE}
use Rattle.narrowing.proofs.Prelude.{◌≡◌, ap, sym, subst, ◌∙◌, Bool, true, false, false≢true, List, ℕ, ones, Has, ◌∖◌, Decides}
use Rattle.narrowing.proofs.Prelude.{Taking, taking_end, lent, State, Standing, Spent, Stopped, Live, Stands, IsWide}

module _ {rules : List ℕ} {r : ℕ} {s : State} where
  -- a rule that is spent or at a stop is not wide
  pub spent_narrow : {t : Standing} → Stands rules r s t → t ≡ Spent → Decides (IsWide rules r s) false
  spent_narrow k e = record {
    yes = λ f. absurd (false≢true f);
    no = λ f w. w.live.unspent (subst (Stands rules r s) e k);
  }

  pub stopped_narrow : {t : Standing} → Stands rules r s t → t ≡ Stopped → Decides (IsWide rules r s) false
  stopped_narrow k e = record {
    yes = λ f. absurd (false≢true f);
    no = λ f w. w.live.unstopped (subst (Stands rules r s) e k);
  }

  -- a live rule is where its head is
  pub live_wide : {t : Standing} {head left count : ℕ} → Stands rules r s t → t ≡ Live → head ≡ (lent rules).head r → left ≡ head ∖ s.dropped
      → count ≡ ones left → Decides (IsWide rules r s) (leb WIDE count)
  live_wide {count = count} k e h l n =
      decides (leb WIDE count) (λ f. record { live = subst (Stands rules r s) e k; wide = rw same at (leb-true WIDE count f) })
      (λ w. le-leb WIDE count (rw same w.wide))
    where
      same : count ≡ ones ((lent rules).head r ∖ s.dropped)
      same = n ∙ ap ones (l ∙ ap (λ (x : ℕ). x ∖ s.dropped) h)

-- the test said no
pub not_wide : {rules : List ℕ} {r : ℕ} {s : State} {b : Bool} → Decides (IsWide rules r s) b → b ≡ false → ¬ IsWide rules r s
not_wide d e = d.no e

module _ {rules : List ℕ} {which : ℕ} {s : State} where
  pub wide_found : (r : ℕ) → Has which r → {b : Bool} → Decides (IsWide rules r s) b → b ≡ true → Decides (SomeWide rules which s) true
  wide_found r h d e = record {
    yes = λ f. record { rule = r; numbered = h; is_wide = d.yes e };
    no = λ f. absurd (false≢true (sym f));
  }

  -- none of the rules was
  pub none_wide : {rest : ℕ} → Taking which rest (λ r. ¬ IsWide rules r s) → rest ≡ 0 → Decides (SomeWide rules which s) false
  none_wide t e = record {
    yes = λ f. absurd (false≢true f);
    no = λ f w. taking_end t e w.rule w.numbered w.is_wide;
  }
