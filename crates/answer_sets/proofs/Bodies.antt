-- The uses of contact tables: what a use asks by its sign, that the rest of a body depends on what it looks at alone, and a body by its parts.
use Rattle.answer_sets.proofs.Prelude.{◌≡◌, refl, sym, ap, ap₂, ◌∙◌, Bool, not, ◌&&◌, ◌↔◌, List, ℕ, ◌-◌, ◌<◌, ◌≤◌, lt-ltb, le-ltb, Has, ◌∩◌, apart}
use Rattle.answer_sets.proofs.Prelude.{all_in, and-true, bool_ext, decided_true, ext, has_cut, cut_left, cut_right, has_left, has_right, decides_apart}
use Rattle.answer_sets.proofs.Prelude.{all_in_at, all_in_intro, union_has, MAX_TABLES, table_answer, Body, lent, negative, inputs, truth, uses}
use Rattle.answer_sets.proofs.Prelude.{USE_BITS, used_table, asks, use_holds, uses_hold, used_inputs, looks, Part, positive_word, negative_word, table_use}
use Rattle.answer_sets.proofs.Prelude.{PartHolds, InBody, has_positive, has_negative, has_use}
use Rattle.contact_tables.proofs.RowBits.{answer_same}

-- ---- what a use asks

pub table_first : (i : ℕ) → i < MAX_TABLES → i ≡ used_table i
unfolding used_table
table_first i l = rw (lt-ltb i MAX_TABLES l, used_table) refl

pub table_second : (i : ℕ) → MAX_TABLES ≤ i → i - MAX_TABLES ≡ used_table i
unfolding used_table
table_second i l = rw (le-ltb i MAX_TABLES l, used_table) refl

module _ (rules : List ℕ) (i M : ℕ) where
  -- what the table of use i says at M
  abbrev pub said : Bool
  said = table_answer (inputs rules (used_table i)) (truth rules (used_table i)) M

  pub wanted_true : i < MAX_TABLES → said ≡ use_holds rules i M
  unfolding use_holds asks
  wanted_true l = rw (lt-ltb i MAX_TABLES l, asks) refl

  pub wanted_false : MAX_TABLES ≤ i → not said ≡ use_holds rules i M
  unfolding use_holds asks
  wanted_false l = rw (le-ltb i MAX_TABLES l, asks) refl

-- ---- nothing but what is looked at counts

-- the inputs of the table that a use is of, as they were read
pub used_inputs_read : (rules : List ℕ) (i : ℕ) {v t : ℕ} → v ≡ inputs rules t → t ≡ used_table i → v ≡ inputs rules (used_table i)
used_inputs_read rules i e f = e ∙ ap (inputs rules) f

pub use_same : (rules : List ℕ) (i M N : ℕ) → inputs rules (used_table i) ∩ M ≡ inputs rules (used_table i) ∩ N → use_holds rules i M ≡ use_holds rules i N
unfolding use_holds
use_same rules i M N e = ap (asks i) (answer_same (inputs rules (used_table i)) (truth rules (used_table i)) M N e)

module _ (rules : List ℕ) (r M N : ℕ) (same : (a : ℕ) → Has (looks rules r) a → Has M a ↔ Has N a) where
  -- the inputs of a table that is used
  inputs_same : (i : ℕ) → i < USE_BITS → Has (uses rules r) i → inputs rules (used_table i) ∩ M ≡ inputs rules (used_table i) ∩ N
  unfolding used_inputs
  inputs_same i l h =
      ext (inputs rules (used_table i) ∩ M) (inputs rules (used_table i) ∩ N)
      (λ a p. let q = cut_left (inputs rules (used_table i)) M p in
      has_cut (inputs rules (used_table i)) N q ((same a (used a q)).0 (cut_right (inputs rules (used_table i)) M p)))
      (λ a p. let q = cut_left (inputs rules (used_table i)) N p in
      has_cut (inputs rules (used_table i)) M q ((same a (used a q)).1 (cut_right (inputs rules (used_table i)) N p)))
    where
      used : (a : ℕ) → Has (inputs rules (used_table i)) a → Has (looks rules r) a
      used a q =
          has_right (negative rules r) (used_inputs rules r) (union_has USE_BITS (uses rules r) (λ k. inputs rules (used_table k)) i a l h q)

  uses_same : uses_hold rules r M ≡ uses_hold rules r N
  unfolding uses_hold
  uses_same =
      bool_ext (all_in USE_BITS (uses rules r) (λ i. use_holds rules i M)) (all_in USE_BITS (uses rules r) (λ i. use_holds rules i N))
      (λ e. all_in_intro USE_BITS (uses rules r) (λ i. use_holds rules i N)
      (λ i l h. sym (use_same rules i M N (inputs_same i l h)) ∙ all_in_at USE_BITS (uses rules r) (λ i. use_holds rules i M) e i l h))
      (λ e. all_in_intro USE_BITS (uses rules r) (λ i. use_holds rules i M)
      (λ i l h. use_same rules i M N (inputs_same i l h) ∙ all_in_at USE_BITS (uses rules r) (λ i. use_holds rules i N) e i l h))

  negative_same : apart (negative rules r) M ≡ apart (negative rules r) N
  negative_same =
      bool_ext (apart (negative rules r) M) (apart (negative rules r) N)
      (λ e. decided_true (decides_apart (negative rules r) N)
      (record { none = λ a h k. ((decides_apart (negative rules r) M).yes e).none a h ((same a (seen a h)).1 k) }))
      (λ e. decided_true (decides_apart (negative rules r) M)
      (record { none = λ a h k. ((decides_apart (negative rules r) N).yes e).none a h ((same a (seen a h)).0 k) }))
    where
      seen : (a : ℕ) → Has (negative rules r) a → Has (looks rules r) a
      seen a h = has_left (negative rules r) (used_inputs rules r) h

  pub rest_same : (lent rules).rest r M ≡ (lent rules).rest r N
  unfolding lent
  rest_same = ap₂ ◌&&◌ negative_same uses_same

-- ---- a body by its parts

module _ (rules : List ℕ) (r N : ℕ) where
  pub body_parts : Body (lent rules) r N → (p : Part) → InBody rules r p → PartHolds rules r p N
  unfolding lent uses_hold
  body_parts b _ has_positive = b.positive_up
  body_parts b _ has_negative =
      (decides_apart (negative rules r) N).yes ((and-true (apart (negative rules r) N) (uses_hold rules r N)).0 b.rest_holds).0
  body_parts b _ (has_use k l h) =
      all_in_at USE_BITS (uses rules r) (λ i. use_holds rules i N)
      ((and-true (apart (negative rules r) N) (uses_hold rules r N)).0 b.rest_holds).1 k l h

  pub parts_body : ((p : Part) → InBody rules r p → PartHolds rules r p N) → Body (lent rules) r N
  unfolding lent uses_hold
  parts_body f = record {
    positive_up = f positive_word has_positive;
    rest_holds = (and-true (apart (negative rules r) N) (uses_hold rules r N)).1 (
      decided_true (decides_apart (negative rules r) N) (f negative_word has_negative),
      all_in_intro USE_BITS (uses rules r) (λ i. use_holds rules i N) (λ i l h. f (table_use i) (has_use i l h)),
    );
  }

  -- the negative atoms of a body that holds are not up
  pub negative_down : Body (lent rules) r N → (i : ℕ) → Has (negative rules r) i → ¬ Has N i
  negative_down b i h = (body_parts b negative_word has_negative).none i h
