-- Rules at a stop (document 02, S-7): what that means, where a rule stands, and that no answer set completes the state there.
use Rattle.narrowing.proofs.Prelude.{◌≡◌, refl, sym, ◌∙◌, subst, Bool, true, false, not, ◌↔◌, List, ℕ, not-true}
use Rattle.narrowing.proofs.Prelude.{not-false, Has, ◌⊆◌, subset, Apart, apart, ◌∩◌, has_without, without_left, without_right}
use Rattle.narrowing.proofs.Prelude.{decides_subset, decides_apart, lent, Completes, half_decided, Part}
use Rattle.narrowing.proofs.Prelude.{PartHolds, InBody, BodySays, State, Truth, Holds, Fails, Open, up_apart, up_completes, completes_known, satisfied}
use Rattle.narrowing.proofs.Prelude.{AnswersInputs, AtStop, IsSpent, IsLive, Chosen, head_up, body_fails, Stands}
use Rattle.narrowing.proofs.Prelude.{Standing, Spent, Stopped, Live}
use Rattle.answer_sets.proofs.Truths.{holds_not_fails, open_not_holds, open_not_fails}
use Rattle.answer_sets.proofs.HalfKnown.{none_satisfies}
use Rattle.narrowing.specs.declared.choice.Choice.{Choice}
use Rattle.narrowing.specs.declared.choice.Choice.TheVariants.{Atom, Stop}

module _ (rules : List ℕ) (r : ℕ) (s : State) where
  -- every part of the body is true in every completion, and every head atom is dropped and not up: just then the rule is at a stop
  pub stop_exactly : AtStop rules r s
      ↔ (((p : Part) → InBody rules r p → (N : ℕ) → Completes (half_decided s.up s.dropped) N → PartHolds rules r p N)
      × ((i : ℕ) → Has ((lent rules).head r) i → Has s.dropped i × ¬ Has s.up i))
  stop_exactly = (
    λ k. (
      k.holds.holds.0 refl,
      λ i h. let d = k.gone.each i h in (without_left s.dropped s.up d, without_right s.dropped s.up d),
    ),
    λ k. record {
      holds = record {
        holds = (λ e. k.0, λ f. refl);
        fails = (
          λ e. absurd (holds_not_fails e),
          λ f. absurd (f.2 s.up here (k.0 f.0 f.1 s.up here)),
        );
      };
      gone = record { each = λ i h. let d = k.1 i h in has_without s.dropped s.up d.0 d.1 };
    },
  )
    where
      here : Completes (half_decided s.up s.dropped) s.up
      here = up_completes (up_apart s.up s.dropped refl)

  -- ---- where a rule stands

  -- what the body test said is what the body says
  told : {t u : Truth} → BodySays rules r s.up s.dropped t → t ≡ u → BodySays rules r s.up s.dropped u
  told k e = subst (BodySays rules r s.up s.dropped) e k

  holds_told : {t : Truth} → BodySays rules r s.up s.dropped t → AtStop rules r s → t ≡ Holds
  holds_told k a = k.holds.1 (a.holds.holds.0 refl)

  -- a spent rule is at no stop
  pub spent_no_stop : IsSpent rules r s → ¬ AtStop rules r s
  spent_no_stop (head_up n) a = n (record { none = λ i h u. without_right s.dropped s.up (a.gone.each i h) u })
  spent_no_stop (body_fails k) a = holds_not_fails (sym (holds_told k a))

  pub failing_spent : {t : Truth} → BodySays rules r s.up s.dropped t → t ≡ Fails → IsSpent rules r s
  failing_spent k e = body_fails (told k e)

  module _ {head : ℕ} {a : Bool} (reads : head ≡ (lent rules).head r) (ea : a ≡ apart head s.up) where
    pub met_spent : not a ≡ true → IsSpent rules r s
    met_spent t = head_up (λ n. (decides_apart head s.up).no (sym ea ∙ not-true a t) (rw reads n))

    module _ (left : not a ≡ false) {t : Truth} (k : BodySays rules r s.up s.dropped t) where
      none_up : Apart head s.up
      none_up = (decides_apart head s.up).yes (sym ea ∙ not-false a left)

      -- no head atom is up, and the body does not fail
      not_spent : ¬ (t ≡ Fails) → ¬ IsSpent rules r s
      not_spent n (head_up m) = m (rw reads at none_up)
      not_spent n (body_fails f) = n (k.fails.1 (f.fails.0 refl))

      pub open_live : t ≡ Open → IsLive rules r s
      open_live e = record { unspent = not_spent (λ f. open_not_fails (sym e ∙ f)); unstopped = λ h. open_not_holds (sym e ∙ holds_told k h) }

      module _ {b : Bool} (e : t ≡ Holds) (eb : b ≡ subset head s.dropped) where
        pub held_stopped : b ≡ true → AtStop rules r s
        held_stopped f = record {
          holds = told k e;
          gone = record {
            each = λ i h. let k : Has head i = rw reads h in
                has_without s.dropped s.up (((decides_subset head s.dropped).yes (sym eb ∙ f)).each i k) (none_up.none i k);
          };
        }

        pub held_live : b ≡ false → IsLive rules r s
        held_live f = record {
          unspent = not_spent (λ g. holds_not_fails (sym e ∙ g));
          unstopped = λ h. (decides_subset head s.dropped).no (sym eb ∙ f)
              (record { each = λ i p. without_left s.dropped s.up (h.gone.each i (rw reads at p)) });
        }

-- a rule that does not stand at a stop is at none
pub stands_no_stop : (rules : List ℕ) (r : ℕ) (s : State) (t : Standing) → Stands rules r s t → ¬ (t ≡ Stopped) → ¬ AtStop rules r s
stands_no_stop rules r s Spent k n = spent_no_stop rules r s k
stands_no_stop rules r s Stopped k n = absurd (n refl)
stands_no_stop rules r s Live k n = k.unstopped

-- what comes next of some of the free atoms comes next of all
pub chosen_within : (rules : List ℕ) (which : ℕ) (s : State) {some free : ℕ} (c : Choice) → some ⊆ free → Chosen rules which s some c
    → Chosen rules which s free c
chosen_within rules which s (Atom i) f k = (f.each i k.0, k.1, k.2)
chosen_within rules which s (Stop r) f k = k

-- ---- "show that no completion there satisfies that rule": so none is an answer set

pub stop_answers_none : (rules : List ℕ) (which inputs r : ℕ) {s : State} → Has which r → AtStop rules r s → (N : ℕ) → Completes s N
    → ¬ AnswersInputs rules which inputs N
stop_answers_none rules which inputs r {s} h a N c p =
    none_satisfies rules r s.up s.dropped a.holds a.gone N (completes_known c)
    (satisfied (lent rules) which (N ∩ inputs) N r p.answer h)
