-- The words of contact tables and rules in the record, and what one TABLE, RULE or USE more does to them.
use Rattle.reading.proofs.Prelude.{◌≡◌, refl, ap, ap₂, sym, ◌∙◌, subst, List, [], ◌∷◌, ◌++◌, append_assoc, flat_map, List-as-Memᴰ, ℕ, zero, suc, ◌+◌, ◌*◌}
use Rattle.reading.proofs.Prelude.{◌-◌, ◌≤◌, ◌<◌, arith, length, get_or, set, replicate, length-append, set-append_left, get_or-append-add, padded, Has}
use Rattle.reading.proofs.Prelude.{◌∪◌, atom, padded_long, padded_at, padded_snoc, MAX_TABLES, MAX_RULES, CONTACT_WORDS, FIRST_RULE, RULE_WORDS, USES}
use Rattle.reading.proofs.Prelude.{wanted_bit, uses_at, TableWords, RuleWords, TableUse, two_words, word_of, uses_of, rule_words, All}
use Rattle.reading.proofs.KeyedWords.{has_entry, entry_has, word_same, word_other}
use Rattle.reading.proofs.ElementLists.{length-snoc, all_member, flat_snoc}

-- ---- a list in two parts

set_behind : (xs ys : List ℕ) (i v : ℕ) → set (xs ++ ys) (length xs + i) v ≡ xs ++ set ys i v
set_behind [] ys i v = let e : 0 + i ≡ i = omega arith in ap (λ (n : ℕ). set ys n v) e
set_behind (x ∷ xs) ys i v =
    let e : suc (length xs) + i ≡ suc (length xs + i) = omega arith in
    ap (λ (n : ℕ). set (x ∷ (xs ++ ys)) n v) e ∙ ap (λ (l : List ℕ). x ∷ l) (set_behind xs ys i v)

-- place j of the whole is place i of the second part
module _ (front back : List ℕ) (i j : ℕ) (there : j ≡ length front + i) where
  set_second : (v : ℕ) → set (front ++ back) j v ≡ front ++ set back i v
  set_second v = ap (λ (m : ℕ). set (front ++ back) m v) there ∙ set_behind front back i v

  get_or_second : get_or (front ++ back) j 0 ≡ get_or back i 0
  get_or_second = ap (λ (m : ℕ). get_or (front ++ back) m 0) there ∙ get_or-append-add front back i 0

-- a zero at the end is one of those that fill up
padded_zero : (size : ℕ) (xs : List ℕ) → length xs < size → padded size (xs ++ (0 ∷ [])) ≡ padded size xs
unfolding padded
padded_zero size xs l =
    let n : size - length (xs ++ (0 ∷ [])) ≡ size - suc (length xs) = omega (arith, length-append xs (0 ∷ [])) in
    let m : size - length xs ≡ suc (size - suc (length xs)) = omega arith in
    append_assoc xs (0 ∷ []) (replicate {A = ℕ} (size - length (xs ++ (0 ∷ []))) 0)
    ∙ ap (λ (k : ℕ). xs ++ (0 ∷ replicate {A = ℕ} k 0)) n
    ∙ ap (λ (k : ℕ). xs ++ replicate {A = ℕ} k 0) (sym m)

-- ---- contact tables

abbrev pub table_words_lem : List TableWords → List ℕ
table_words_lem tables = padded FIRST_RULE (flat_map two_words tables)

tables_long : (tables : List TableWords) → length (flat_map two_words tables) ≡ CONTACT_WORDS * length tables
unfolding flat_map
tables_long [] = refl
tables_long (t ∷ tables) = let e = tables_long tables in omega arith

pub table_words_long : (tables : List TableWords) → length tables ≤ MAX_TABLES → length (table_words_lem tables) ≡ FIRST_RULE
table_words_long tables l = padded_long FIRST_RULE (flat_map two_words tables) (omega (arith, tables_long tables))

-- one TABLE more
pub tables_snoc : (tables : List TableWords) (t : TableWords) (back : List ℕ) → length tables < MAX_TABLES
    → set (set (table_words_lem tables ++ back) (CONTACT_WORDS * length tables) t.inputs) (CONTACT_WORDS * length tables + 1) t.truth
    ≡ table_words_lem (tables ++ (t ∷ [])) ++ back
tables_snoc tables t back l =
    let w = flat_map two_words tables in
    let n : ℕ = CONTACT_WORDS * length tables in
    let long = tables_long tables in
    let one = length-snoc w t.inputs in
    let first : set (table_words_lem tables) n t.inputs ≡ padded FIRST_RULE (w ++ (t.inputs ∷ [])) =
    padded_snoc FIRST_RULE w n t.inputs long (omega arith) in
    let second = padded_snoc FIRST_RULE (w ++ (t.inputs ∷ [])) (n + 1) t.truth (omega arith) (omega arith) in
    let whole = table_words_long tables (omega arith) in
    ap (λ (x : List ℕ). set x (n + 1) t.truth) (set-append_left (table_words_lem tables) back n t.inputs (omega arith))
    ∙ ap (λ (x : List ℕ). set (x ++ back) (n + 1) t.truth) first
    ∙ set-append_left (padded FIRST_RULE (w ++ (t.inputs ∷ []))) back (n + 1) t.truth
    (omega (arith, padded_long FIRST_RULE (w ++ (t.inputs ∷ [])) (omega arith)))
    ∙ ap (λ (x : List ℕ). x ++ back) second
    ∙ ap (λ (x : List ℕ). padded FIRST_RULE x ++ back) (append_assoc w (t.inputs ∷ []) (t.truth ∷ []) ∙ sym (flat_snoc two_words tables t))

-- ---- rules

words_long : (uses : List TableUse) (n : ℕ) (rules : List RuleWords) → length (rule_words uses n rules) ≡ RULE_WORDS * length rules
unfolding rule_words
words_long uses n [] = refl
words_long uses n (r ∷ rules) = let e = words_long uses (suc n) rules in omega arith

words_snoc : (n : ℕ) (rules : List RuleWords) (r : RuleWords)
    → rule_words [] n (rules ++ (r ∷ [])) ≡ rule_words [] n rules ++ (r.head ∷ r.positive ∷ r.negative ∷ 0 ∷ [])
unfolding rule_words uses_of word_of
words_snoc n [] r = refl
words_snoc n (x ∷ rules) r = ap (λ (l : List ℕ). x.head ∷ x.positive ∷ x.negative ∷ 0 ∷ l) (words_snoc (suc n) rules r)

abbrev rule_space : ℕ
rule_space = RULE_WORDS * MAX_RULES

abbrev bodies : List TableUse → List RuleWords → List ℕ
bodies uses rules = padded rule_space (rule_words uses 0 rules)

rules_snoc_unused : (front : List ℕ) (rules : List RuleWords) (r : RuleWords) → length front ≡ FIRST_RULE → length rules < MAX_RULES
    → set
    (set (set (front ++ bodies [] rules) (FIRST_RULE + RULE_WORDS * length rules) r.head) (FIRST_RULE + RULE_WORDS * length rules + 1) r.positive)
    (FIRST_RULE + RULE_WORDS * length rules + 2)
    r.negative
    ≡ front ++ bodies [] (rules ++ (r ∷ []))
rules_snoc_unused front rules r whole l =
    let w = rule_words [] 0 rules in
    let n : ℕ = RULE_WORDS * length rules in
    let long = words_long [] 0 rules in
    let head = w ++ (r.head ∷ []) in
    let body = head ++ (r.positive ∷ []) in
    let three = body ++ (r.negative ∷ []) in
    let one = length-snoc w r.head in
    let two = length-snoc head r.positive in
    let all = length-snoc body r.negative in
    let regrouped : three ++ (0 ∷ []) ≡ w ++ (r.head ∷ r.positive ∷ r.negative ∷ 0 ∷ []) = simp append_assoc in
    let words : three ++ (0 ∷ []) ≡ rule_words [] 0 (rules ++ (r ∷ [])) = regrouped ∙ sym (words_snoc 0 rules r) in
    rw (
      set_second front (padded rule_space w) n (FIRST_RULE + n) (omega arith) r.head,
      padded_snoc rule_space w n r.head long (omega arith),
      set_second front (padded rule_space head) (n + 1) (FIRST_RULE + n + 1) (omega arith) r.positive,
      padded_snoc rule_space head (n + 1) r.positive (omega arith) (omega arith),
      set_second front (padded rule_space body) (n + 2) (FIRST_RULE + n + 2) (omega arith) r.negative,
      padded_snoc rule_space body (n + 2) r.negative (omega arith) (omega arith),
    )
    (ap (λ (x : List ℕ). front ++ x) (sym (padded_zero rule_space three (omega arith)) ∙ ap (padded rule_space) words))

-- one RULE more: its uses come later
pub rules_snoc : (front : List ℕ) (uses : List TableUse) (rules : List RuleWords) (r : RuleWords) → length front ≡ FIRST_RULE
    → length rules < MAX_RULES → uses ≡ []
    → set
    (set (set (front ++ bodies uses rules) (FIRST_RULE + RULE_WORDS * length rules) r.head) (FIRST_RULE + RULE_WORDS * length rules + 1) r.positive)
    (FIRST_RULE + RULE_WORDS * length rules + 2)
    r.negative
    ≡ front ++ bodies uses (rules ++ (r ∷ []))
rules_snoc front uses rules r whole l none = rw none (rules_snoc_unused front rules r whole l)

-- ---- uses

use_is : {x y : TableUse} → x.rule ≡ y.rule → x.table ≡ y.table → x.sign ≡ y.sign → x ≡ y
use_is p q r = λ i. record { rule = p i; table = q i; sign = r i }

-- a use's rule and its bit
abbrev rule_of : TableUse → ℕ
rule_of x = x.rule

abbrev pub bit_of : TableUse → ℕ
bit_of x = wanted_bit x.table x.sign

pub use_has : (uses : List TableUse) (x : TableUse) → List-as-Memᴰ x uses → Has (uses_of uses x.rule) (bit_of x)
unfolding uses_of
use_has uses x m = entry_has rule_of bit_of uses x m

-- a bit stands for one table and one sign
pub has_use : (uses : List TableUse) (x : TableUse) → All (λ y. y.table < MAX_TABLES) uses → x.table < MAX_TABLES
    → Has (uses_of uses x.rule) (bit_of x) → List-as-Memᴰ x uses
unfolding uses_of
has_use uses x few l h =
    let e = has_entry rule_of bit_of uses x.rule (bit_of x) h in
    let y = e.entry in
    let k : y.table < MAX_TABLES = all_member (λ z. z.table < MAX_TABLES) uses y few e.listed in
    let bit : wanted_bit y.table y.sign ≡ wanted_bit x.table x.sign = e.own_bit in
    let same-table : y.table ≡ x.table = omega arith in
    let same_sign : y.sign ≡ x.sign = omega arith in
    subst (λ (z : TableUse). List-as-Memᴰ z uses) (use_is e.own_key same-table same_sign) e.listed

-- ---- one USE more

module _ (uses : List TableUse) where
  words_at : (n : ℕ) (rules : List RuleWords) (i : ℕ) → i < length rules → get_or (rule_words uses n rules) (RULE_WORDS * i + USES) 0 ≡ uses_of uses (n + i)
  unfolding rule_words
  words_at n [] i l = absurd (omega arith)
  words_at n (r ∷ rules) zero l = let e : n ≡ n + 0 = omega arith in ap (uses_of uses) e
  words_at n (r ∷ rules) (suc i) l =
      let next : RULE_WORDS * suc i + USES ≡ suc (suc (suc (suc (RULE_WORDS * i + USES)))) = omega arith in
      let e : suc n + i ≡ n + suc i = omega arith in
      ap (λ (k : ℕ). get_or (rule_words uses n (r ∷ rules)) k 0) next ∙ words_at (suc n) rules i (omega arith) ∙ ap (uses_of uses) e

  pub uses_word : (front : List ℕ) (rules : List RuleWords) (i : ℕ) → length front ≡ FIRST_RULE → length rules ≤ MAX_RULES → i < length rules
      → get_or (front ++ bodies uses rules) (uses_at i) 0 ≡ uses_of uses i
  uses_word front rules i whole most l =
      let k : ℕ = RULE_WORDS * i + USES in
      let there : uses_at i ≡ length front + k = omega arith in
      let zero-first : 0 + i ≡ i = omega arith in
      get_or_second front (bodies uses rules) k (uses_at i) there
      ∙ padded_at rule_space (rule_words uses 0 rules) k (omega (arith, words_long uses 0 rules)) ∙ words_at 0 rules i l ∙ ap (uses_of uses) zero-first

  module _ (x : TableUse) where
    abbrev more : List TableUse
    more = uses ++ (x ∷ [])

    -- the other rules keep their uses
    words_same : (n : ℕ) (rules : List RuleWords) → x.rule < n → rule_words uses n rules ≡ rule_words more n rules
    unfolding rule_words uses_of
    words_same n [] l = refl
    words_same n (r ∷ rules) l =
        ap₂ (λ (w : ℕ) (rest : List ℕ). r.head ∷ r.positive ∷ r.negative ∷ w ∷ rest)
        (word_other rule_of bit_of uses x n (λ e. omega arith)) (words_same (suc n) rules (omega arith))

    words_use : (n : ℕ) (rules : List RuleWords) (i : ℕ) → i < length rules → x.rule ≡ n + i
        → set (rule_words uses n rules) (RULE_WORDS * i + USES) (uses_of more (n + i)) ≡ rule_words more n rules
    unfolding rule_words uses_of
    words_use n [] i l e = absurd (omega arith)
    words_use n (r ∷ rules) zero l e =
        let here : n + 0 ≡ n = omega arith in
        ap₂ (λ (w : ℕ) (rest : List ℕ). r.head ∷ r.positive ∷ r.negative ∷ w ∷ rest)
        (ap (uses_of more) here) (words_same (suc n) rules (omega arith))
    words_use n (r ∷ rules) (suc i) l e =
        let next : RULE_WORDS * suc i + USES ≡ suc (suc (suc (suc (RULE_WORDS * i + USES)))) = omega arith in
        let further : n + suc i ≡ suc n + i = omega arith in
        ap₂ (λ (k j : ℕ). set (rule_words uses n (r ∷ rules)) k (uses_of more j)) next further
        ∙ ap₂ (λ (w : ℕ) (rest : List ℕ). r.head ∷ r.positive ∷ r.negative ∷ w ∷ rest)
        (word_other rule_of bit_of uses x n (λ q. omega arith)) (words_use (suc n) rules i (omega arith) (omega arith))

    pub uses_snoc : (front : List ℕ) (rules : List RuleWords) → length front ≡ FIRST_RULE → length rules ≤ MAX_RULES → x.rule < length rules
        → set (front ++ bodies uses rules) (uses_at x.rule) (get_or (front ++ bodies uses rules) (uses_at x.rule) 0 ∪ atom (bit_of x))
        ≡ front ++ bodies more rules
    unfolding padded uses_of
    uses_snoc front rules whole most l =
        let i : ℕ = x.rule in
        let k : ℕ = RULE_WORDS * i + USES in
        let w = rule_words uses 0 rules in
        let long = words_long uses 0 rules in
        let there : uses_at i ≡ length front + k = omega arith in
        let zero-first : 0 + i ≡ i = omega arith in
        let new : get_or (front ++ bodies uses rules) (uses_at i) 0 ∪ atom (bit_of x) ≡ uses_of more (0 + i) =
        ap (λ (v : ℕ). v ∪ atom (bit_of x)) (uses_word front rules i whole most l) ∙ word_same rule_of bit_of uses x ∙ ap (uses_of more) (sym zero-first) in
        let fill : rule_space - length w ≡ rule_space - length (rule_words more 0 rules) = omega (arith, words_long more 0 rules) in
        ap (set (front ++ bodies uses rules) (uses_at i)) new
        ∙ set_second front (bodies uses rules) k (uses_at i) there (uses_of more (0 + i))
        ∙ ap (λ (v : List ℕ). front ++ v)
        (set-append_left w (replicate {A = ℕ} (rule_space - length w) 0) k (uses_of more (0 + i)) (omega arith)
        ∙ ap₂ (λ (a : List ℕ) (m : ℕ). a ++ replicate {A = ℕ} m 0) (words_use 0 rules i l (sym zero-first)) fill)
