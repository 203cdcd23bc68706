-- Linked rules: their bodies where pilots follow their tables, and their answer sets.
use Rattle.pilots.proofs.Prelude.{◌≡◌, refl, sym, subst, ap, ap₂, ◌∙◌, Bool, true, false, ◌⊎◌, inl, inr, List, ℕ, ◌+◌, ◌-◌, ◌*◌, ◌/◌}
use Rattle.pilots.proofs.Prelude.{◌^◌, ◌<◌, arith, not-true, not-false, get_or, dec_lt, Has, ◌⊆◌, ◌⊂◌, Apart, ◌∩◌, has_dec, has_cut}
use Rattle.pilots.proofs.Prelude.{has_left, has_right, has_without, without_left, union_cases, some_atom, union_has, union_at, MAX_TABLES}
use Rattle.pilots.proofs.Prelude.{FIRST_RULE, CONTACT_WORDS, table_answer, lent, negative, uses, USE_BITS, used_table, inputs, truth, asks, use_holds}
use Rattle.pilots.proofs.Prelude.{wanted_true, wanted_false, table_first, table_second, body_parts, parts_body}
use Rattle.pilots.proofs.Prelude.{FollowAll, on_pilots, off_pilots, LinkedRule, Linked, PilotsWithin}
use Rattle.atoms.proofs.Digits.{shifted_digit}
use Rattle.answer_sets.specs.Program.{Body}
use Rattle.answer_sets.specs.AnswerSet.{ReductModel, Kept}
use Rattle.answer_sets.specs.Known.{Part, positive_word, negative_word, table_use, PartHolds, InBody, has_positive, has_negative, has_use}
use Rattle.narrowing.specs.Inputs.{AnswersInputs}

-- ---- uses and their tables

-- the second half of the uses is of tables that are to be false
shifted : (w n : ℕ) {i : ℕ} → Has (w / 2 ^ n) i → Has w (n + i)
shifted w n {i} h = record { bit = sym (shifted_digit w n i) ∙ h.bit }

unshifted : (w n : ℕ) {i : ℕ} → Has w (n + i) → Has (w / 2 ^ n) i
unshifted w n {i} h = record { bit = shifted_digit w n i ∙ h.bit }

-- a use of the first half, and one of the second
abbrev Sided : ℕ → Type 0
Sided i = (i < MAX_TABLES) ⊎ ((t : ℕ) × (t < MAX_TABLES) × (i ≡ MAX_TABLES + t))

sided : (i : ℕ) → i < USE_BITS → Sided i
sided i l = go (dec_lt i MAX_TABLES)
  where
    go : Dec (i < MAX_TABLES) → Sided i
    go (yes h) = inl h
    go (no h) = inr (i - MAX_TABLES, omega arith, omega arith)

table_behind : (t : ℕ) → used_table (MAX_TABLES + t) ≡ t
table_behind t = sym (table_second (MAX_TABLES + t) (omega arith)) ∙ omega arith

module _ (rules pilots : List ℕ) (M : ℕ) (f : FollowAll rules pilots M) where
  -- a use that holds has its table's pilot as it asks
  on_up : (t : ℕ) → t < MAX_TABLES → use_holds rules t M ≡ true → get_or pilots t 0 ⊆ M
  on_up t l h =
      (f.each t l).when_true
      (subst (λ (x : ℕ). table_answer (inputs rules x) (truth rules x) M ≡ true) (sym (table_first t l)) (wanted_true rules t M l ∙ h))

  off_down : (t : ℕ) → t < MAX_TABLES → use_holds rules (MAX_TABLES + t) M ≡ true → Apart (get_or pilots t 0) M
  off_down t l h =
      (f.each t l).when_false
      (subst (λ (x : ℕ). table_answer (inputs rules x) (truth rules x) M ≡ false) (table_behind t)
      (not-true _ (wanted_false rules (MAX_TABLES + t) M (omega arith) ∙ h)))

  -- and one whose table's pilot is as it asks holds
  on_holds : (t a : ℕ) → t < MAX_TABLES → Has (get_or pilots t 0) a → Has M a → use_holds rules t M ≡ true
  on_holds t a l h m = go (use_holds rules t M) refl
    where
      go : (b : Bool) → use_holds rules t M ≡ b → use_holds rules t M ≡ true
      go true e = e
      go false e =
          absurd
          (((f.each t l).when_false
          (subst (λ (x : ℕ). table_answer (inputs rules x) (truth rules x) M ≡ false) (sym (table_first t l)) (wanted_true rules t M l ∙ e))).none a h m)

  off_holds : (t a : ℕ) → t < MAX_TABLES → Has (get_or pilots t 0) a → ¬ Has M a → use_holds rules (MAX_TABLES + t) M ≡ true
  off_holds t a l h m = go (use_holds rules (MAX_TABLES + t) M) refl
    where
      go : (b : Bool) → use_holds rules (MAX_TABLES + t) M ≡ b → use_holds rules (MAX_TABLES + t) M ≡ true
      go true e = e
      go false e =
          absurd
          (m (((f.each t l).when_true
          (subst (λ (x : ℕ). table_answer (inputs rules x) (truth rules x) M ≡ true) (table_behind t)
          (not-false _ (wanted_false rules (MAX_TABLES + t) M (omega arith) ∙ e)))).each a h))

-- ---- bodies

-- the tables of linked rules are the same, and so are their uses
use_linked : (rules linked : List ℕ) → ((j : ℕ) → j < FIRST_RULE → get_or linked j 0 ≡ get_or rules j 0) → (i : ℕ) → i < USE_BITS → (N : ℕ)
    → use_holds linked i N ≡ use_holds rules i N
unfolding use_holds
use_linked rules linked e i l N =
    ap (asks i)
    (ap₂ (λ (a b : ℕ). table_answer a b N) (e (CONTACT_WORDS * used_table i) (go (sided i l)).0) (e (CONTACT_WORDS * used_table i + 1) (go (sided i l)).1))
  where
    go : Sided i → (CONTACT_WORDS * used_table i < FIRST_RULE) × (CONTACT_WORDS * used_table i + 1 < FIRST_RULE)
    go (inl h) = (omega (arith, table_first i h), omega (arith, table_first i h))
    go (inr (t, h, q)) = (omega (arith, ap used_table q ∙ table_behind t), omega (arith, ap used_table q ∙ table_behind t))

module _ {rules pilots linked : List ℕ} {which : ℕ} (k : Linked rules pilots which linked) (r : ℕ) (p : Has which r) where
  words : LinkedRule rules pilots k.told linked r
  words = k.each r p

  -- a body of linked words that holds where pilots follow their tables
  pub unlinked_body : (M : ℕ) → FollowAll rules pilots M → Body (lent linked) r M → Body (lent rules) r M
  unlinked_body M f b = parts_body rules r M go
    where
      parts : (q : Part) → InBody linked r q → PartHolds linked r q M
      parts = body_parts linked r M b

      use_of : (i : ℕ) → (l : i < USE_BITS) → Has (uses rules r) i → Dec (Has k.told i) → Sided i → use_holds rules i M ≡ true
      use_of i l h (no n) s =
          sym (use_linked rules linked (k.same_tables r p) i l M)
          ∙ parts (table_use i) (has_use i l (rw words.uses (has_without (uses rules r) k.told h n)))
      use_of i l h (yes d) (inl s) =
          let a = some_atom (get_or pilots i 0) (λ z. k.told_uses.piloted i d (ap (λ (x : ℕ). get_or pilots x 0) (sym (table_first i s)) ∙ z)) in
          on_holds rules pilots M f i a.0 s a.1
          ((parts positive_word has_positive).each a.0
          (rw words.positive (has_right ((lent rules).positive r) (on_pilots rules pilots r)
          (union_has MAX_TABLES (uses rules r) (λ t. get_or pilots t 0) i a.0 s h a.1))))
      use_of i l h (yes d) (inr (t, s, q)) =
          let a = some_atom (get_or pilots t 0)
          (λ z. k.told_uses.piloted i d (ap (λ (x : ℕ). get_or pilots x 0) (ap used_table q ∙ table_behind t) ∙ z)) in
          rw q
          (off_holds rules pilots M f t a.0 s a.1
          ((parts negative_word has_negative).none a.0
          (rw words.negative (has_right (negative rules r) (off_pilots rules pilots r)
          (union_has MAX_TABLES (uses rules r / 2 ^ MAX_TABLES) (λ t. get_or pilots t 0) t a.0 s (unshifted (uses rules r) MAX_TABLES (rw q at h)) a.1)))))

      go : (q : Part) → InBody rules r q → PartHolds rules r q M
      go _ has_positive = record {
        each = λ i h. (parts positive_word has_positive).each i (rw words.positive (has_left ((lent rules).positive r) (on_pilots rules pilots r) h));
      }
      go _ has_negative = record {
        none = λ i h. (parts negative_word has_negative).none i (rw words.negative (has_left (negative rules r) (off_pilots rules pilots r) h));
      }
      go _ (has_use i l h) = use_of i l h (has_dec k.told i) (sided i l)

  -- a body holds of linked words where it holds, and pilots are as it asks
  linked_body : (N : ℕ) → on_pilots rules pilots r ⊆ N → Apart (off_pilots rules pilots r) N → Body (lent rules) r N → Body (lent linked) r N
  linked_body N on off b = parts_body linked r N go
    where
      parts : (q : Part) → InBody rules r q → PartHolds rules r q N
      parts = body_parts rules r N b

      up : (i : ℕ) → Has ((lent rules).positive r) i ⊎ Has (on_pilots rules pilots r) i → Has N i
      up i (inl h) = (parts positive_word has_positive).each i h
      up i (inr h) = on.each i h

      down : (i : ℕ) → Has (negative rules r) i ⊎ Has (off_pilots rules pilots r) i → ¬ Has N i
      down i (inl h) = (parts negative_word has_negative).none i h
      down i (inr h) = off.none i h

      go : (q : Part) → InBody linked r q → PartHolds linked r q N
      go _ has_positive = record { each = λ i h. up i (union_cases ((lent rules).positive r) (on_pilots rules pilots r) (rw words.positive at h)) }
      go _ has_negative = record { none = λ i h. down i (union_cases (negative rules r) (off_pilots rules pilots r) (rw words.negative at h)) }
      go _ (has_use i l h) =
          use_linked rules linked (k.same_tables r p) i l N ∙ parts (table_use i) (has_use i l (without_left (uses rules r) k.told (rw words.uses at h)))

  module _ (M : ℕ) (f : FollowAll rules pilots M) (b : Body (lent rules) r M) where
    -- so they are where pilots follow their tables
    on_there : on_pilots rules pilots r ⊆ M
    on_there = record {
      each = λ a h.
          let u = union_at MAX_TABLES (uses rules r) (λ t. get_or pilots t 0) a h in
          (on_up rules pilots M f u.0 u.1 (body_parts rules r M b (table_use u.0) (has_use u.0 (omega (arith, u.1)) u.2))).each a u.3;
    }

    off_there : Apart (off_pilots rules pilots r) M
    off_there = record {
      none = λ a h.
          let u = union_at MAX_TABLES (uses rules r / 2 ^ MAX_TABLES) (λ t. get_or pilots t 0) a h in
          (off_down rules pilots M f u.0 u.1
          (body_parts rules r M b (table_use (MAX_TABLES + u.0))
          (has_use (MAX_TABLES + u.0) (omega (arith, u.1)) (shifted (uses rules r) MAX_TABLES u.2)))).none a u.3;
    }

    on_within : {inputs : ℕ} → PilotsWithin pilots inputs → on_pilots rules pilots r ⊆ inputs
    on_within w = record {
      each = λ a h. let u = union_at MAX_TABLES (uses rules r) (λ t. get_or pilots t 0) a h in (w.each u.0 u.1).each a u.3;
    }

    -- and in every smaller set that has the same inputs
    pub linked_below : {inputs N : ℕ} → PilotsWithin pilots inputs → M ∩ inputs ⊆ N → N ⊆ M → Body (lent rules) r N → Body (lent linked) r N
    linked_below {inputs} {N} w facts within c =
        linked_body N
        (record { each = λ a h. facts.each a (has_cut M inputs (on_there.each a h) ((on_within w).each a h)) })
        (record { none = λ a h m. off_there.none a h (within.each a m) }) c

    pub linked_here : Body (lent linked) r M
    linked_here = linked_body M on_there off_there b

-- ---- answer sets

-- an answer set in which the pilots are inputs and follow their tables is one of the linked rules
pub answers_linked : {rules pilots linked : List ℕ} {which inputs M : ℕ} → Linked rules pilots which linked → PilotsWithin pilots inputs
    → FollowAll rules pilots M → AnswersInputs rules which inputs M → AnswersInputs linked which inputs M
answers_linked {rules} {pilots} {linked} {which} {inputs} {M} k w f s = record {
  answer = record {
    model = record { facts_up = s.answer.model.facts_up; each = λ r q. record { head_up = λ b. met r q b } };
    minimal = λ N proper m. s.answer.minimal N proper (record {
      facts_up = m.facts_up;
      each = λ r q. record { head_up = λ b. below N proper m r q b };
    });
  };
}
  where
    met : (r : ℕ) → Kept (lent linked) which M r → Body (lent linked) r M → (a : ℕ) × Has ((lent linked).head r) a × Has M a
    met r q b =
        let c = unlinked_body k r q.numbered M f b in
        let h = (s.answer.model.each r (record { numbered = q.numbered; holds = c })).head_up c in
        (h.0, rw (k.each r q.numbered).head h.1, h.2)

    below : (N : ℕ) → N ⊂ M → ReductModel (lent linked) which (M ∩ inputs) M N → (r : ℕ) → Kept (lent rules) which M r → Body (lent rules) r N
        → (a : ℕ) × Has ((lent rules).head r) a × Has N a
    below N proper m r q b =
        let here = linked_here k r q.numbered M f q.holds in
        let h = (m.each r (record { numbered = q.numbered; holds = here })).head_up
        (linked_below k r q.numbered M f q.holds w m.facts_up proper.within b) in
        (h.0, rw (k.each r q.numbered).head at h.1, h.2)
