-- The record of a plan's lists means what the lists say.
use Rattle.plan_meaning.proofs.Prelude.{◌≡◌, refl, sym, ap, ◌∙◌, subst, Bool, true, false, not, ◌↔◌, ◌⊎◌, inl, inr, List, [], ◌∷◌, flat_map, List-as-Memᴰ}
use Rattle.plan_meaning.proofs.Prelude.{Memᴰ-head, Memᴰ-not-nil, Memᴰ-eq_of_singleton, ℕ, zero, suc, ◌+◌, ◌*◌, ◌-◌, ◌≤◌, ◌<◌, arith}
use Rattle.plan_meaning.proofs.Prelude.{ltb, length, get_or, get_or-append-add, get_or-append, lt-ltb, le-ltb, ATOMS, EVERY_ATOM, Has, Apart, apart}
use Rattle.plan_meaning.proofs.Prelude.{below, and-true, not_is_true, not_both, decided_true, false_of_not_true, has_none, has_left, has_right}
use Rattle.plan_meaning.proofs.Prelude.{union_cases, has_below, decides_apart, MAX_TABLES, MAX_RULES, MAX_UNITS, CONTACT_WORDS, FIRST_RULE, RULE_WORDS}
use Rattle.plan_meaning.proofs.Prelude.{table_answer, lent, rule_at, negative, inputs, truth, uses, looks, USE_BITS, used_table, asks, use_holds, uses_hold}
use Rattle.plan_meaning.proofs.Prelude.{used_inputs, TableWords, RuleWords, TableUse, UnitPair, Contents, two_words, uses_of, rule_words, predecessors_of}
use Rattle.plan_meaning.proofs.Prelude.{record_of, GoodTable, GoodUse, All, WithinLimits, Lays, reading, ReadPlan, TrueAt, Number, first, later}
use Rattle.plan_meaning.proofs.Prelude.{UseHolds, RestHolds, LooksAt, input, RuleMeans, Means}
use Rattle.atoms.specs.Lists.{padded}
use Rattle.atoms.proofs.Bounded.{all_in_at, all_in_intro, union_has, union_at}
use Rattle.atoms.proofs.Lists.{padded_at}
use Rattle.reading.specs.Kinds.{single, given, show, table}
use Rattle.reading.proofs.RoundTrip.{layout_is_read}
use Rattle.reading.proofs.ElementLists.{all_member}
use Rattle.reading.proofs.KeyedWords.{has_entry, entry_has}
use Rattle.reading.proofs.Program.{bit_of, table_words_lem, table_words_long, use_has}
use Rattle.reading.proofs.Elements.{few_within, row_is, uses_are}
use Rattle.plan_meaning.specs.Meaning.{negative as looks-negative}
use Rattle.plan_meaning.proofs.TruthTables.{answer_true}

-- ---- numbers in a list

pub number_lt : {A : Type 0} {xs : List A} {i : ℕ} {x : A} → Number xs i x → i < length xs
number_lt first = omega arith
number_lt (later n) = let l = number_lt n in omega arith

pub number_there : {A : Type 0} (xs : List A) (i : ℕ) → i < length xs → (x : A) × Number xs i x
number_there [] i l = absurd (omega arith)
number_there (x ∷ xs) zero l = (x, first)
number_there (x ∷ xs) (suc i) l = let n = number_there xs i (omega arith) in (n.0, later n.1)

pub number_listed : {A : Type 0} (P : A → Type 0) {xs : List A} {i : ℕ} {x : A} → All P xs → Number xs i x → P x
number_listed P a first = a.0
number_listed P a (later n) = number_listed P a.1 n

number_get_or : {xs : List ℕ} {i x : ℕ} → Number xs i x → get_or xs i 0 ≡ x
number_get_or first = refl
number_get_or (later n) = number_get_or n

-- ---- the words of a table, and of a rule

module _ (c : Contents) (within : WithinLimits c) where
  abbrev words : List ℕ
  words = (record_of c).rules

  front_long : length (table_words_lem c.tables) ≡ FIRST_RULE
  front_long = table_words_long c.tables (within.under table)

  two_words_lem : (tables : List TableWords) {i : ℕ} {t : TableWords} → Number tables i t
      → (get_or (flat_map two_words tables) (CONTACT_WORDS * i) 0 ≡ t.inputs) × (get_or (flat_map two_words tables) (CONTACT_WORDS * i + 1) 0 ≡ t.truth)
      × (CONTACT_WORDS * i + 1 < length (flat_map two_words tables))
  unfolding flat_map
  two_words_lem [] n = elim n [ ]
  two_words_lem (t ∷ ts) first = (refl, refl, omega arith)
  two_words_lem (t ∷ ts) (later {i = i} n) =
      let w = two_words_lem ts n in
      let e : CONTACT_WORDS * suc i ≡ suc (suc (CONTACT_WORDS * i)) = omega arith in
      let f : CONTACT_WORDS * suc i + 1 ≡ suc (suc (CONTACT_WORDS * i + 1)) = omega arith in
      (ap (λ (k : ℕ). get_or (flat_map two_words (t ∷ ts)) k 0) e ∙ w.0, ap (λ (k : ℕ). get_or (flat_map two_words (t ∷ ts)) k 0) f ∙ w.1, omega (arith, w.2))

  in_front : (k : ℕ) → k < length (flat_map two_words c.tables) → k < FIRST_RULE → get_or words k 0 ≡ get_or (flat_map two_words c.tables) k 0
  unfolding record_of
  in_front k l m =
      get_or-append (table_words_lem c.tables) (padded (RULE_WORDS * MAX_RULES) (rule_words c.uses 0 c.rules)) 0 k (omega (arith, front_long))
      ∙ padded_at FIRST_RULE (flat_map two_words c.tables) k l

  table_words : {i : ℕ} {t : TableWords} → Number c.tables i t → (inputs words i ≡ t.inputs) × (truth words i ≡ t.truth)
  table_words {i} n =
      let w = two_words_lem c.tables n in
      let l = number_lt n in (
        in_front (CONTACT_WORDS * i) (omega (arith, w.2)) (omega (arith, within.under table)) ∙ w.0,
        in_front (CONTACT_WORDS * i + 1) w.2 (omega (arith, within.under table)) ∙ w.1,
      )

  four_words : (n : ℕ) (rules : List RuleWords) {i : ℕ} {w : RuleWords} → Number rules i w
      → (get_or (rule_words c.uses n rules) (RULE_WORDS * i) 0 ≡ w.head) × (get_or (rule_words c.uses n rules) (RULE_WORDS * i + 1) 0 ≡ w.positive)
      × (get_or (rule_words c.uses n rules) (RULE_WORDS * i + 2) 0 ≡ w.negative) × (RULE_WORDS * i + 2 < length (rule_words c.uses n rules))
  unfolding rule_words
  four_words n [] m = elim m [ ]
  four_words n (r ∷ rs) first = (refl, refl, refl, omega arith)
  four_words n (r ∷ rs) (later {i = i} m) =
      let w = four_words (suc n) rs m in
      let at : ℕ → ℕ = λ k. get_or (rule_words c.uses n (r ∷ rs)) k 0 in
      let e : RULE_WORDS * suc i ≡ suc (suc (suc (suc (RULE_WORDS * i)))) = omega arith in
      let f : RULE_WORDS * suc i + 1 ≡ suc (suc (suc (suc (RULE_WORDS * i + 1)))) = omega arith in
      let g : RULE_WORDS * suc i + 2 ≡ suc (suc (suc (suc (RULE_WORDS * i + 2)))) = omega arith in
      (ap at e ∙ w.0, ap at f ∙ w.1, ap at g ∙ w.2, omega (arith, w.3))

  in_back : (k j : ℕ) → j ≡ FIRST_RULE + k → k < length (rule_words c.uses 0 c.rules) → get_or words j 0 ≡ get_or (rule_words c.uses 0 c.rules) k 0
  unfolding record_of
  in_back k j e l =
      let there : j ≡ length (table_words_lem c.tables) + k = omega (arith, front_long) in
      ap (λ (m : ℕ). get_or words m 0) there
      ∙ get_or-append-add (table_words_lem c.tables) (padded (RULE_WORDS * MAX_RULES) (rule_words c.uses 0 c.rules)) k 0
      ∙ padded_at (RULE_WORDS * MAX_RULES) (rule_words c.uses 0 c.rules) k l

  rule_words_lem : {r : ℕ} {w : RuleWords} → Number c.rules r w
      → (get_or words (rule_at r) 0 ≡ w.head) × (get_or words (rule_at r + 1) 0 ≡ w.positive) × (negative words r ≡ w.negative)
  rule_words_lem {r} n =
      let w = four_words 0 c.rules n in (
        in_back (RULE_WORDS * r) (rule_at r) (omega arith) (omega (arith, w.3)) ∙ w.0,
        in_back (RULE_WORDS * r + 1) (rule_at r + 1) (omega arith) (omega (arith, w.3)) ∙ w.1,
        in_back (RULE_WORDS * r + 2) (rule_at r + 2) (omega arith) w.3 ∙ w.2,
      )

  use_words : {r : ℕ} {w : RuleWords} → Number c.rules r w → uses words r ≡ uses_of c.uses r
  use_words {r} n = uses_are c (few_within within) r (number_lt n)

  -- ---- the bit of a use

  good_use : (x : TableUse) → List-as-Memᴰ x c.uses → GoodUse (length c.rules) (length c.tables) x
  good_use x m = all_member (GoodUse (length c.rules) (length c.tables)) c.uses x within.good_uses m

  bit_lt : (x : TableUse) → x.table < MAX_TABLES → x.sign ≤ 1 → bit_of x < USE_BITS
  bit_lt x l s = omega arith

  bit_true : (x : TableUse) → x.table < MAX_TABLES → x.sign ≡ 0 → ltb (bit_of x) MAX_TABLES ≡ true
  bit_true x l s = lt-ltb (bit_of x) MAX_TABLES (omega arith)

  bit_false : (x : TableUse) → x.sign ≡ 1 → ltb (bit_of x) MAX_TABLES ≡ false
  bit_false x s = le-ltb (bit_of x) MAX_TABLES (omega arith)

  bit_table : (x : TableUse) → x.table < MAX_TABLES → (x.sign ≡ 0) ⊎ (x.sign ≡ 1) → used_table (bit_of x) ≡ x.table
  unfolding used_table
  bit_table x l (inl s) = let e : bit_of x ≡ x.table = omega arith in rw (bit_true x l s, used_table) e
  bit_table x l (inr s) = let e : bit_of x - MAX_TABLES ≡ x.table = omega arith in rw (bit_false x s, used_table) e

  asks_true : (x : TableUse) (said : Bool) → x.table < MAX_TABLES → x.sign ≡ 0 → asks (bit_of x) said ≡ said
  unfolding asks
  asks_true x said l s = rw (bit_true x l s, asks) refl

  asks_false : (x : TableUse) (said : Bool) → x.sign ≡ 1 → asks (bit_of x) said ≡ not said
  unfolding asks
  asks_false x said s = rw (bit_false x s, asks) refl

  sign_cases : (x : TableUse) → x.sign ≤ 1 → (x.sign ≡ 0) ⊎ (x.sign ≡ 1)
  sign_cases x l = go x.sign l
    where
      go : (s : ℕ) → s ≤ 1 → (s ≡ 0) ⊎ (s ≡ 1)
      go zero l = inl refl
      go (suc zero) l = inr refl
      go (suc (suc s)) l = absurd (omega arith)

  -- ---- a use

  module _ (x : TableUse) (good : GoodUse (length c.rules) (length c.tables) x) (M : ℕ) where
    small : x.table < MAX_TABLES
    small = omega (arith, good.table_there, within.under table)

    said : Bool
    said = table_answer (inputs words x.table) (truth words x.table) M

    said_true : (t : TableWords) → Number c.tables x.table t → (said ≡ true) ↔ TrueAt t M
    unfolding said
    said_true t n =
        let w = table_words n in
        let g = number_listed GoodTable within.good_tables n in
        rw (w.0, w.1) (answer_true t.inputs g.inputs_fit g.few_inputs t.truth M)

    use_said : (x.sign ≡ 0) ⊎ (x.sign ≡ 1) → use_holds words (bit_of x) M ≡ asks (bit_of x) said
    unfolding use_holds said
    use_said s = ap (λ (t : ℕ). asks (bit_of x) (table_answer (inputs words t) (truth words t) M)) (bit_table x small s)

    use_told : use_holds words (bit_of x) M ≡ true → UseHolds c x M
    use_told e = record {
      must_be_true = λ s t n. (said_true t n).0 (sym (asks_true x said small s) ∙ sym (use_said (inl s)) ∙ e);
      must_be_false = λ s t n y.
          not_both ((said_true t n).1 y) ((not_is_true said).0 (sym (asks_false x said s) ∙ sym (use_said (inr s)) ∙ e));
    }

    use_back : UseHolds c x M → use_holds words (bit_of x) M ≡ true
    use_back u = go (sign_cases x good.zero_or_one) (number_there c.tables x.table good.table_there)
      where
        go : (x.sign ≡ 0) ⊎ (x.sign ≡ 1) → (t : TableWords) × Number c.tables x.table t → use_holds words (bit_of x) M ≡ true
        go (inl s) (t, n) = use_said (inl s) ∙ asks_true x said small s ∙ (said_true t n).1 (u.must_be_true s t n)
        go (inr s) (t, n) =
            use_said (inr s) ∙ asks_false x said s
            ∙ (not_is_true said).1 (false_of_not_true said (λ e. u.must_be_false s t n ((said_true t n).0 e)))

  -- ---- a rule

  module _ {r : ℕ} {w : RuleWords} (n : Number c.rules r w) where
    -- a bit of the word is a use of the rule
    used : (i : ℕ) → Has (uses words r) i → (x : TableUse) × List-as-Memᴰ x c.uses × (x.rule ≡ r) × (bit_of x ≡ i)
    unfolding uses_of
    used i h =
        let e = has_entry (λ (x : TableUse). x.rule) bit_of c.uses r i (rw (use_words n) at h) in
        (e.entry, e.listed, e.own_key, e.own_bit)

    uses_it : (x : TableUse) → List-as-Memᴰ x c.uses → x.rule ≡ r → Has (uses words r) (bit_of x)
    uses_it x m e = rw (use_words n) (subst (λ (k : ℕ). Has (uses_of c.uses k) (bit_of x)) e (use_has c.uses x m))

    rest_told : (M : ℕ) → (lent words).rest r M ≡ true → RestHolds c r w M
    unfolding lent uses_hold
    rest_told M e =
        let k = (and-true (apart (negative words r) M) (uses_hold words r M)).0 e in
        record {
          negative = subst (λ (v : ℕ). Apart v M) (rule_words_lem n).2 ((decides_apart (negative words r) M).yes k.0);
          uses = λ x m q.
              let g = good_use x m in
              use_told x g M (all_in_at USE_BITS (uses words r) (λ i. use_holds words i M) k.1 (bit_of x)
              (bit_lt x (small x g M) g.zero_or_one) (uses_it x m q));
        }

    rest_back : (M : ℕ) → RestHolds c r w M → (lent words).rest r M ≡ true
    unfolding lent uses_hold
    rest_back M h =
        (and-true (apart (negative words r) M) (uses_hold words r M)).1 (
          decided_true (decides_apart (negative words r) M) (subst (λ (v : ℕ). Apart v M) (sym (rule_words_lem n).2) h.negative),
          all_in_intro USE_BITS (uses words r) (λ i. use_holds words i M) (λ i l b.
              let u = used i b in
              subst (λ (k : ℕ). use_holds words k M ≡ true) u.3 (use_back u.0 (good_use u.0 u.1) M (h.uses u.0 u.1 u.2))),
        )

    rule_means : RuleMeans c (lent words) r w
    unfolding lent
    rule_means = record { head = (rule_words_lem n).0; positive = (rule_words_lem n).1; rest = λ M. (rest_told M, rest_back M) }

    looks_told : (a : ℕ) → Has (looks words r) a → LooksAt c r w a
    unfolding used_inputs
    looks_told a h = go (union_cases (negative words r) (used_inputs words r) h)
      where
        go : Has (negative words r) a ⊎ Has (used_inputs words r) a → LooksAt c r w a
        go (inl k) = looks-negative (rw (rule_words_lem n).2 at k)
        go (inr k) =
            let u = union_at USE_BITS (uses words r) (λ i. inputs words (used_table i)) a k in
            let x = used u.0 u.2 in
            let g = good_use x.0 x.1 in
            let t = number_there c.tables x.0.table g.table_there in
            let of : used_table u.0 ≡ x.0.table =
            ap used_table (sym x.3) ∙ bit_table x.0 (small x.0 g 0) (sign_cases x.0 g.zero_or_one) in
            input x.0 t.0 x.1 x.2 t.1
            (subst (λ (v : ℕ). Has v a) (ap (inputs words) of ∙ (table_words t.1).0) u.3)

    looks_back : (a : ℕ) → LooksAt c r w a → Has (looks words r) a
    unfolding used_inputs
    looks_back a (looks-negative h) = has_left (negative words r) (used_inputs words r) (rw (rule_words_lem n).2 h)
    looks_back a (input x t m e number h) =
        let g = good_use x m in
        let of : used_table (bit_of x) ≡ x.table = bit_table x (small x g 0) (sign_cases x g.zero_or_one) in
        has_right (negative words r) (used_inputs words r)
        (union_has USE_BITS (uses words r) (λ i. inputs words (used_table i)) (bit_of x) a (bit_lt x (small x g 0) g.zero_or_one) (uses_it x m e)
        (subst (λ (v : ℕ). Has v a) (sym (ap (inputs words) of ∙ (table_words number).0)) h))

  -- ---- the other lists

  given_means : (a : ℕ) → Has (record_of c).once.given.word a ↔ ((word : ℕ) × List-as-Memᴰ word (c.once given) × Has word a)
  unfolding record_of
  given_means a = go (c.once given) (within.under (single given))
    where
      go : (xs : List ℕ) → length xs ≤ 1 → Has (get_or xs 0 0) a ↔ ((word : ℕ) × List-as-Memᴰ word xs × Has word a)
      go [] l = (λ h. absurd (has_none h), λ k. absurd (Memᴰ-not-nil k.1))
      go (x ∷ []) l = (λ h. (x, Memᴰ-head refl, h), λ k. subst (λ (v : ℕ). Has v a) (Memᴰ-eq_of_singleton k.1) k.2)
      go (x ∷ y ∷ xs) l = absurd (omega arith)

  shown_means : (a : ℕ) → a < ATOMS → Has (record_of c).once.shown.word a ↔ ((word : ℕ) → List-as-Memᴰ word (c.once show) → Has word a)
  unfolding record_of below
  shown_means a s = go (c.once show) (within.under (single show))
    where
      go : (xs : List ℕ) → length xs ≤ 1 → Has (get_or xs 0 EVERY_ATOM) a ↔ ((word : ℕ) → List-as-Memᴰ word xs → Has word a)
      go [] l = (λ h word m. absurd (Memᴰ-not-nil m), λ k. has_below ATOMS a s)
      go (x ∷ []) l = (λ h word m. subst (λ (v : ℕ). Has v a) (sym (Memᴰ-eq_of_singleton m)) h, λ k. k x (Memᴰ-head refl))
      go (x ∷ y ∷ xs) l = absurd (omega arith)

  unit_means : (u word : ℕ) → Number c.units u word → get_or (record_of c).units u 0 ≡ word
  unfolding record_of
  unit_means u word n = padded_at MAX_UNITS c.units u (number_lt n) ∙ number_get_or n

  edge_means : (u v : ℕ) → u < length c.units
      → Has (get_or (record_of c).predecessors u 0) v ↔ ((e : UnitPair) × List-as-Memᴰ e c.edges × (e.u ≡ u) × (e.v ≡ v))
  unfolding record_of predecessors_of
  edge_means u v l = (
    λ h.
        let e = has_entry (λ (x : UnitPair). x.u) (λ (x : UnitPair). x.v) c.edges u v (rw (row_is c (few_within within) u l) at h) in
        (e.entry, e.listed, e.own_key, e.own_bit),
    λ k.
        rw (row_is c (few_within within) u l)
        (subst (λ (i : ℕ). Has (predecessors_of c.edges i) v) k.2
        (subst (Has (predecessors_of c.edges k.0.u)) k.3 (entry_has (λ (x : UnitPair). x.u) (λ (x : UnitPair). x.v) c.edges k.0 k.1))),
  )

  pub record_means : Means c (record_of c)
  unfolding record_of
  record_means = record {
    rule_count_is = refl;
    rule = λ r w n. rule_means n;
    looks_at = λ r w n a. (looks_told n a, looks_back n a);
    given = given_means;
    unit_count_is = refl;
    unit = unit_means;
    edge = edge_means;
    shown = shown_means;
  }

-- what was read is the record of the lists
pub read_record : (bytes : List ℕ) {c : Contents} → Lays bytes c → Means c (reading bytes).plan
read_record bytes {c} l =
    subst (λ (r : ReadPlan). Means c r.plan) (sym (ap reading l.bytes_are ∙ layout_is_read c l.within l.counted)) (record_means c l.within)
