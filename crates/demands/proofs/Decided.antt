-- The computing lists are those of `Listed`: along edges, since a unit reaches more than any unit it has an edge to.
use Rattle.demands.proofs.Prelude.{refl, Bool, true, false, List-as-Memᴰ, ℕ, zero, suc, ◌^◌, ◌≤◌, ◌<◌, arith, MAX_RULES, Has, ◌⊆◌, ◌∩◌, below, decides}
use Rattle.demands.proofs.Prelude.{decides_iff, decides_and, decided_true, not_both, decides_subset, subset_le, lt_of_has, cut_right, below_lt}
use Rattle.demands.proofs.Prelude.{decides_some, all_in_at, all_in_intro, members_at, members_has, AnswerSet, Units, Edge, GivenFree, Passes, reach}
use Rattle.demands.proofs.Prelude.{heads, input_heads, Listed, is_input, in_list, unit_list_of}
use Rattle.atoms.specs.Bounded.{Decides, all_in, some_below}
use Rattle.answer_sets.specs.Test.{answer_set}
use Rattle.answer_sets.proofs.JudgedSets.{decides_answer_set}
use Rattle.dependency_graph.proofs.Heads.{edge_rank}
use Rattle.splitting.proofs.Words.{Input, listed_words, words_listed}
use Rattle.splitting.proofs.Form.{listed_member}

-- a rule number is a bit of a word
pub numbers_fit : (S : Units) (u : ℕ) → S.rules ≤ MAX_RULES → S.unit u ∩ below S.rules < 2 ^ 64
numbers_fit S u small =
    lt_of_has (S.unit u ∩ below S.rules) 64
    (λ r h. let l : r < S.rules = below_lt S.rules (cut_right (S.unit u) (below S.rules) h) in omega arith)

decides_input : (S : Units) (u J : ℕ) (in_list_of : ℕ → ℕ → Bool) → u < S.units
    → ((v M : ℕ) → Edge S u v → Decides (Listed S v M) (in_list_of v M)) → Decides (Input S u J) (is_input S in_list_of u J)
unfolding is_input
decides_input S u J in_list_of l d =
    decides_iff into from
    (decides_and (decides_subset S.given J) (decides_and (decides_subset J (input_heads S u)) each))
  where
    to : {v : ℕ} → v < S.units → Has (S.predecessors u) v → Edge S u v
    to k h = record { is_unit = l; is_predecessor = k; edge = h }

    test : ℕ → Bool
    test v = in_list_of v (J ∩ heads S v)

    each : Decides ((v : ℕ) → v < S.units → Has (S.predecessors u) v → Listed S v (J ∩ heads S v)) (all_in S.units (S.predecessors u) test)
    each =
        decides (all_in S.units (S.predecessors u) test)
        (λ e v k h. (d v (J ∩ heads S v) (to k h)).yes (all_in_at S.units (S.predecessors u) test e v k h))
        (λ f. all_in_intro S.units (S.predecessors u) test (λ v k h. decided_true (d v (J ∩ heads S v) (to k h)) (f v k h)))

    into : (S.given ⊆ J) × ((J ⊆ input_heads S u) × ((v : ℕ) → v < S.units → Has (S.predecessors u) v → Listed S v (J ∩ heads S v)))
        → Input S u J
    into h = record { given_up = h.0; within = h.1.0; inputs = λ v e. h.1.1 v e.is_predecessor e.edge }

    from : Input S u J
        → (S.given ⊆ J) × ((J ⊆ input_heads S u) × ((v : ℕ) → v < S.units → Has (S.predecessors u) v → Listed S v (J ∩ heads S v)))
    from i = (i.given_up, (i.within, λ v k h. i.inputs v (to k h)))

-- one step of the definition: M is an answer set for the input J
abbrev from_input : Units → (ℕ → ℕ → Bool) → ℕ → ℕ → ℕ → Bool
from_input S in_list_of u M J =
    elim (answer_set S.program (S.unit u ∩ below S.rules) J M) [ true ↦ is_input S in_list_of u J | false ↦ false ]

decides_step : (S : Units) (u M : ℕ) (in_list_of : ℕ → ℕ → Bool) → S.rules ≤ MAX_RULES → u < S.units
    → ((v N : ℕ) → Edge S u v → Decides (Listed S v N) (in_list_of v N))
    → Decides (Listed S u M) (some_below (suc (input_heads S u)) (from_input S in_list_of u M))
decides_step S u M in_list_of small l d =
    decides_iff into from
    (decides_some (suc (input_heads S u)) (from_input S in_list_of u M)
    (λ J k.
    lazily (decides_answer_set S.program (S.unit u ∩ below S.rules) J M (numbers_fit S u small)) (decides_input S u J in_list_of l d)))
  where
    lazily : {P Q : Type 0} {a b : Bool} → Decides P a → Decides Q b → Decides (P × Q) (elim a [ true ↦ b | false ↦ false ])
    lazily {a = true} p q = decides_iff (λ y. (p.yes refl, y)) (λ h. h.1) q
    lazily {a = false} p q = record { yes = λ e. absurd (not_both e refl); no = λ e h. p.no refl h.0 }

    into : ((J : ℕ) × (J < suc (input_heads S u)) × (AnswerSet S.program (S.unit u ∩ below S.rules) J M × Input S u J))
        → Listed S u M
    into (J, k, (a, i)) = listed_words S l i a

    from : Listed S u M
        → (J : ℕ) × (J < suc (input_heads S u)) × (AnswerSet S.program (S.unit u ∩ below S.rules) J M × Input S u J)
    from h = let t = words_listed S l h in (t.0, omega (arith, subset_le t.1.within), (t.2, t.1))

module _ (S : Units) (pass : Passes S) (free : GivenFree S) (small : S.rules ≤ MAX_RULES) where
  decides_depth : (depth u M : ℕ) → u < S.units → reach S u < depth → Decides (Listed S u M) (in_list S depth u M)
  unfolding in_list
  decides_depth zero u M l k = absurd (omega arith)
  decides_depth (suc depth) u M l k =
      decides_step S u M (in_list S depth) small l
      (λ v N e. decides_depth depth v N e.is_predecessor (omega (arith, edge_rank S pass.acyclic u v e)))

  pub decides_listed : (u M : ℕ) → u < S.units → Decides (Listed S u M) (in_list S (suc (reach S u)) u M)
  decides_listed u M l = decides_depth (suc (reach S u)) u M l (omega arith)

  -- ---- the rising list

  pub listed_within : (u M : ℕ) → u < S.units → Listed S u M → M ⊆ heads S u
  listed_within u M l h = ((listed_member S pass free u l M).0 h).within

  pub unit_list_at : (u M : ℕ) → u < S.units → List-as-Memᴰ M (unit_list_of S u) → Listed S u M
  unfolding unit_list_of
  unit_list_at u M l m = (decides_listed u M l).yes (members_at (in_list S (suc (reach S u)) u) (suc (heads S u)) M m).1

  pub unit_list_has : (u M : ℕ) → u < S.units → Listed S u M → List-as-Memᴰ M (unit_list_of S u)
  unfolding unit_list_of
  unit_list_has u M l h =
      members_has (in_list S (suc (reach S u)) u) (suc (heads S u)) M (omega (arith, subset_le (listed_within u M l h)))
      (decided_true (decides_listed u M l) h)
