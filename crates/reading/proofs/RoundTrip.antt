-- Reading the layout of lists within the limits accepts and gives their record: command by command, reading takes the record of the lists
-- before it to that of the lists with it.
use Rattle.reading.proofs.Prelude.{◌≡◌, refl, ap, sym, ◌∙◌, subst, List, [], ◌∷◌, ◌++◌, append_assoc, append-nil, flat_map, List-as-Memᴰ, Memᴰ-head}
use Rattle.reading.proofs.Prelude.{Memᴰ-tail, Memᴰ-append_cases, Memᴰ-eq_of_singleton, Memᴰ-not-nil, true, false, ◌⊎◌, inl, inr, ℕ}
use Rattle.reading.proofs.Prelude.{suc, ◌+◌, ◌^◌, ◌≤◌, ◌<◌, arith, length, length-append, pow_mono, drop_at, le-ltb, lt-leb, decided_false, MAX_TABLES}
use Rattle.reading.proofs.Prelude.{MAX_RULES, MAX_USES, MAX_UNITS, MAX_EDGES, WORD_VALUES, Single, sizes, given, show, Kind, single, table, rule}
use Rattle.reading.proofs.Prelude.{usage, unit, edge, end, byte_of, operand_bytes, carrying, miscounted, rows, of_kind, command_at, onward, ended, step_of}
use Rattle.reading.proofs.Prelude.{walk, reading, accepted, command_bytes, Sizes, TableWords, RuleWords, TableUse, UnitPair, OnceElement, Contents}
use Rattle.reading.proofs.Prelude.{Element, count_bytes, given_bytes, table_bytes, rule_bytes, use_bytes, unit_bytes, edge_bytes, show_bytes, end_bytes}
use Rattle.reading.proofs.Prelude.{commands, layout, record_of, All, AllDistinct, GoodTable, GoodRule, GoodUse, GoodEdge, WithinLimits, CountRight}
use Rattle.reading.proofs.Prelude.{Plan}
use Rattle.reading.proofs.Commands.{Passed, none_fits, known_command, in_place_passed, adds, step_when_lem}
use Rattle.reading.proofs.CommandKinds.{kind_of_byte, end_in_time}
use Rattle.reading.proofs.Walk.{walk_on, walk_ended}
use Rattle.reading.proofs.Elements.{nothing, with, operands_of, operands_long, element_at, read_again, Sized, few_so, few_within, Fits, right_passed}
use Rattle.reading.proofs.Elements.{record_none, record_with}
use Rattle.reading.proofs.ElementLists.{length-snoc, all_snoc}
use Rattle.reading.proofs.Sizes.{decides_miscounted}

-- a command that no row stops is what it carries
read_as : (p : Plan) (at : ℕ) (k : Kind) (operands : List ℕ) → Passed (rows p at k operands)
    → command_at p at (byte_of k ∷ operands) ≡ carrying k operands
unfolding of_kind
read_as p at k operands h =
    known_command p at (byte_of k) operands k (kind_of_byte k) ∙ none_fits (rows p at k operands) (carrying k operands) h

-- ---- one command

module _ (c : Contents) (k : Kind) (x : Element k) (rest : List ℕ) (more : adds k ≡ true) (f : Fits c k x) (sized : Sized k x) where
  abbrev operands : List ℕ
  operands = operands_of k x ++ rest

  again : element_at k operands ≡ x
  again = read_again k x rest sized

  long : operand_bytes k ≤ length operands
  long = omega (arith, length-append (operands_of k x) rest, operands_long k x)

  fits_again : Fits c k (element_at k operands)
  fits_again = subst (Fits c k) (sym again) f

  passed : (at : ℕ) → Passed (rows (record_of c) at k operands)
  passed at =
      let first = in_place_passed (record_of c) at k f.in_place in
      (first.0, (first.1.0, (le-ltb _ _ long, right_passed c at operands f.few k more fits_again.right)))

  leads_with : (at : ℕ) → step_of (record_of c) (command_at (record_of c) at (byte_of k ∷ operands)) ≡ onward k (record_of (with c k x))
  leads_with at =
      ap (step_of (record_of c)) (read_as (record_of c) at k operands (passed at)) ∙ step_when_lem (record_of c) k operands true more
      ∙ ap (onward k) (record_with c k operands fits_again ∙ ap (λ (y : Element k). record_of (with c k y)) again)

-- reading the bytes s takes the record from p to q
record Takes (p : Plan) (s : List ℕ) (q : Plan) : Type 0 where
  goes : (at : ℕ) (rest : List ℕ) → walk p at 0 (s ++ rest) ≡ walk q (at + length s) 0 rest

takes_none : (p : Plan) → Takes p [] p
takes_none p = record { goes = λ at rest. let e : at ≡ at + 0 = omega arith in ap (λ (n : ℕ). walk p n 0 rest) e }

takes_both : {p q r : Plan} {s t : List ℕ} → Takes p s q → Takes q t r → Takes p (s ++ t) r
takes_both {p} {q} {r} {s} {t} a b = record { goes = both }
  where
    both : (at : ℕ) (rest : List ℕ) → walk p at 0 ((s ++ t) ++ rest) ≡ walk r (at + length (s ++ t)) 0 rest
    both at rest =
        let e : at + length s + length t ≡ at + length (s ++ t) = omega (arith, length-append s t) in
        ap (walk p at 0) (append_assoc s t rest) ∙ a.goes at (t ++ rest) ∙ b.goes (at + length s) rest ∙ ap (λ (n : ℕ). walk r n 0 rest) e

one_takes : (c : Contents) (k : Kind) (x : Element k) → adds k ≡ true → Fits c k x → Sized k x
    → Takes (record_of c) (byte_of k ∷ operands_of k x) (record_of (with c k x))
one_takes c k x more f sized = record { goes = one }
  where
    q : Plan
    q = record_of (with c k x)

    one : (at : ℕ) (rest : List ℕ)
        → walk (record_of c) at 0 ((byte_of k ∷ operands_of k x) ++ rest) ≡ walk q (at + length (byte_of k ∷ operands_of k x)) 0 rest
    one at rest =
        walk_on (record_of c) at (byte_of k ∷ (operands_of k x ++ rest)) k q (leads_with c k x rest more f sized at)
        ∙ ap (walk q (at + command_bytes k) 0) (drop_at (operands_of k x) rest (operand_bytes k) (operands_long k x))
        ∙ ap (λ (n : ℕ). walk q (at + suc n) 0 rest) (sym (operands_long k x))

-- ---- a whole group

-- each element is fit to come behind those before it
abbrev Follows : {A : Type 0} → (List A → A → Type 0) → List A → List A → Type 0
Follows Fit done [] = Unit {0}
Follows Fit done (x ∷ xs) = Fit done x × Follows Fit (done ++ (x ∷ [])) xs

group_takes : {A : Type 0} (bytes : A → List ℕ) (state : List A → Plan) (Fit : List A → A → Type 0)
    → ((done : List A) (x : A) → Fit done x → Takes (state done) (bytes x) (state (done ++ (x ∷ []))))
    → (xs done : List A) → Follows Fit done xs → Takes (state done) (flat_map bytes xs) (state (done ++ xs))
unfolding flat_map
group_takes bytes state Fit one [] done f = rw append-nil (takes_none (state done))
group_takes bytes state Fit one (x ∷ xs) done f =
    takes_both (one done x f.0) (rw append_assoc at (group_takes bytes state Fit one xs (done ++ (x ∷ [])) f.1))

few_follow : {A : Type 0} (most : ℕ) (P : A → Type 0) (xs done : List A) → length done + length xs ≤ most → All P xs
    → Follows (λ d x. (length d < most) × P x) done xs
few_follow most P [] done h a = tt
few_follow most P (x ∷ xs) done h a =
    ((omega arith, a.0), few_follow most P xs (done ++ (x ∷ [])) (omega (arith, length-snoc done x)) a.1)

-- x is new behind d, where each is good and there is room
record New {A : Type 0} (most : ℕ) (P : A → Type 0) (d : List A) (x : A) : Type 0 where
  room : length d < most
  all_good : All P d
  good : P x
  new : ¬ List-as-Memᴰ x d

new_follow : {A : Type 0} (most : ℕ) (P : A → Type 0) (xs done : List A) → length done + length xs ≤ most → All P done
    → ((e : A) → List-as-Memᴰ e xs → ¬ List-as-Memᴰ e done) → AllDistinct xs → All P xs → Follows (New most P) done xs
new_follow most P [] done l b h d a = tt
new_follow most P (x ∷ xs) done l b h d a = (
  record { room = omega arith; all_good = b; good = a.0; new = h x (Memᴰ-head refl) },
  new_follow most P xs (done ++ (x ∷ [])) (omega (arith, length-snoc done x)) (all_snoc P done x b a.0) apart d.1 a.1,
)
  where
    apart : (e : _) → List-as-Memᴰ e xs → ¬ List-as-Memᴰ e (done ++ (x ∷ []))
    apart e m k = go (Memᴰ-append_cases done k)
      where
        go : List-as-Memᴰ e done ⊎ List-as-Memᴰ e (x ∷ []) → ⊥
        go (inl old) = h e (Memᴰ-tail m) old
        go (inr q) = d.0 (subst (λ (y : _). List-as-Memᴰ y xs) (Memᴰ-eq_of_singleton q) m)

pub end_step : (p : Plan) (at : ℕ) → miscounted p ≡ false → step_of p (command_at p at end_bytes) ≡ ended (accepted p)
unfolding carrying
end_step p at right = ap (step_of p) (read_as p at end [] (end_in_time p, (refl, (refl, (right, (refl, tt))))))

-- ---- all groups

module _ (c : Contents) (w : WithinLimits c) where
  -- of what may stand once, what stands before the TABLEs
  before_tables : (s : Single) → List (OnceElement s)
  before_tables sizes = c.once sizes
  before_tables given = c.once given
  before_tables show = []

  one_before : (s : Single) → length (before_tables s) ≤ 1
  unfolding before_tables
  one_before sizes = w.under (single sizes)
  one_before given = w.under (single given)
  one_before show = omega arith

  counts_only : List Sizes → Contents
  counts_only d =
      record { once = elim [ sizes ↦ d | given ↦ [] | show ↦ [] ]; tables = []; rules = []; uses = []; units = []; edges = [] }

  given_too : List ℕ → Contents
  given_too d =
      record { once = elim [ sizes ↦ c.once sizes | given ↦ d | show ↦ [] ]; tables = []; rules = []; uses = []; units = []; edges = [] }

  tables_too : List TableWords → Contents
  tables_too d = record { once = before_tables; tables = d; rules = []; uses = []; units = []; edges = [] }

  rules_too : List RuleWords → Contents
  rules_too d = record { once = before_tables; tables = c.tables; rules = d; uses = []; units = []; edges = [] }

  uses_too : List TableUse → Contents
  uses_too d = record { once = before_tables; tables = c.tables; rules = c.rules; uses = d; units = []; edges = [] }

  units_too : List ℕ → Contents
  units_too d = record { once = before_tables; tables = c.tables; rules = c.rules; uses = c.uses; units = d; edges = [] }

  edges_too : List UnitPair → Contents
  edges_too d = record { once = before_tables; tables = c.tables; rules = c.rules; uses = c.uses; units = c.units; edges = d }

  shown_too : List ℕ → Contents
  shown_too d =
      record {
        once = elim [ sizes ↦ c.once sizes | given ↦ c.once given | show ↦ d ];
        tables = c.tables;
        rules = c.rules;
        uses = c.uses;
        units = c.units;
        edges = c.edges;
      }

  counts_taken : Takes (record_of nothing) (flat_map count_bytes (c.once sizes)) (record_of (counts_only (c.once sizes)))
  unfolding record_of counts_only
  counts_taken =
      group_takes count_bytes (λ d. record_of (counts_only d)) (λ d x. (length d < 1) × Unit {0})
      (λ d x f. one_takes (counts_only d) (single sizes) x refl (record {
        few = few_so _ (elim [ sizes ↦ omega (arith, f.0) | given ↦ omega arith | show ↦ omega arith ]) (omega arith) (omega arith)
            (omega arith) (omega arith) tt;
        in_place = record { on_time = omega (arith, f.0); room = refl };
        right = tt;
      }) tt)
      (c.once sizes) [] (few_follow 1 (λ x. Unit {0}) (c.once sizes) [] (omega (arith, w.under (single sizes))) (w.good_once sizes))

  given_taken : Takes (record_of (counts_only (c.once sizes))) (flat_map given_bytes (c.once given)) (record_of (given_too (c.once given)))
  unfolding record_of counts_only given_too before_tables
  given_taken =
      group_takes given_bytes (λ d. record_of (given_too d)) (λ d x. (length d < 1) × (x < WORD_VALUES))
      (λ d x f. one_takes (given_too d) (single given) x refl (record {
        few = few_so _ (elim [ sizes ↦ w.under (single sizes) | given ↦ omega (arith, f.0) | show ↦ omega arith ]) (omega arith) (omega arith) (omega arith)
            (omega arith) tt;
        in_place = record { on_time = omega (arith, f.0); room = refl };
        right = tt;
      }) f.1)
      (c.once given) [] (few_follow 1 (λ x. x < WORD_VALUES) (c.once given) [] (omega (arith, w.under (single given))) (w.good_once given))

  tables_taken : Takes (record_of (given_too (c.once given))) (flat_map table_bytes c.tables) (record_of (tables_too c.tables))
  unfolding record_of before_tables given_too tables_too
  tables_taken =
      group_takes table_bytes (λ d. record_of (tables_too d)) (λ d x. (length d < MAX_TABLES) × GoodTable x)
      (λ d x f. one_takes (tables_too d) table x refl (record {
        few = few_so _ one_before (omega (arith, f.0)) (omega arith) (omega arith) (omega arith) tt;
        in_place = record { on_time = omega arith; room = lt-leb _ _ f.0 };
        right = (f.1.few_inputs, f.1.rows_there);
      }) (f.1.inputs_fit, f.1.truth_fits))
      c.tables [] (few_follow MAX_TABLES GoodTable c.tables [] (omega (arith, w.under table)) w.good_tables)

  rules_taken : Takes (record_of (tables_too c.tables)) (flat_map rule_bytes c.rules) (record_of (rules_too c.rules))
  unfolding record_of before_tables tables_too rules_too
  rules_taken =
      group_takes rule_bytes (λ d. record_of (rules_too d)) (λ d x. (length d < MAX_RULES) × GoodRule x)
      (λ d x f. one_takes (rules_too d) rule x refl (record {
        few = few_so _ one_before (w.under table) (omega (arith, f.0)) (omega arith) (omega arith) tt;
        in_place = record { on_time = omega arith; room = lt-leb _ _ f.0 };
        right = (f.1.some_word, f.1.none_shared);
      }) (f.1.head_fits, (f.1.positive_fits, f.1.negative_fits)))
      c.rules [] (few_follow MAX_RULES GoodRule c.rules [] (omega (arith, w.under rule)) w.good_rules)

  uses_taken : Takes (record_of (rules_too c.rules)) (flat_map use_bytes c.uses) (record_of (uses_too c.uses))
  unfolding record_of before_tables rules_too uses_too
  uses_taken =
      let Good = GoodUse (length c.rules) (length c.tables) in
      group_takes use_bytes (λ d. record_of (uses_too d)) (New MAX_USES Good)
      (λ d x f. one_takes (uses_too d) usage x refl (record {
        few = few_so _ one_before (w.under table) (w.under rule) (omega (arith, f.room)) (omega arith) f.all_good;
        in_place = record { on_time = omega arith; room = lt-leb _ _ f.room };
        right = (f.good, f.new);
      }) tt)
      c.uses [] (new_follow MAX_USES Good c.uses [] (omega (arith, w.under usage)) tt (λ x m k. Memᴰ-not-nil k) w.no_use_again w.good_uses)

  units_taken : Takes (record_of (uses_too c.uses)) (flat_map unit_bytes c.units) (record_of (units_too c.units))
  unfolding record_of before_tables uses_too units_too
  units_taken =
      let most : 2 ^ length c.rules ≤ WORD_VALUES = pow_mono (w.under rule) in
      group_takes unit_bytes (λ d. record_of (units_too d)) (λ d x. (length d < MAX_UNITS) × (x < 2 ^ length c.rules))
      (λ d x f. one_takes (units_too d) unit x refl (record {
        few = few_so _ one_before (w.under table) (w.under rule) (w.under usage) (omega (arith, f.0)) w.good_uses;
        in_place = record { on_time = omega arith; room = lt-leb _ _ f.0 };
        right = f.1;
      }) (omega (arith, f.1)))
      c.units [] (few_follow MAX_UNITS (λ x. x < 2 ^ length c.rules) c.units [] (omega (arith, w.under unit)) w.good_units)

  edges_taken : Takes (record_of (units_too c.units)) (flat_map edge_bytes c.edges) (record_of (edges_too c.edges))
  unfolding record_of before_tables units_too edges_too
  edges_taken =
      let Good = GoodEdge (length c.units) in
      group_takes edge_bytes (λ d. record_of (edges_too d)) (New MAX_EDGES Good)
      (λ d x f. one_takes (edges_too d) edge x refl (record {
        few = few_so _ one_before (w.under table) (w.under rule) (w.under usage) (w.under unit) w.good_uses;
        in_place = record { on_time = omega arith; room = refl };
        right = (f.good, f.new);
      }) tt)
      c.edges [] (new_follow MAX_EDGES Good c.edges [] (omega (arith, w.under edge)) tt (λ x m k. Memᴰ-not-nil k) w.no_repeat w.good_edges)

  shown_taken : Takes (record_of (edges_too c.edges)) (flat_map show_bytes (c.once show)) (record_of c)
  unfolding record_of before_tables edges_too shown_too
  shown_taken =
      group_takes show_bytes (λ d. record_of (shown_too d)) (λ d x. (length d < 1) × (x < WORD_VALUES))
      (λ d x f. one_takes (shown_too d) (single show) x refl (record {
        few = few_so _ (elim [ sizes ↦ w.under (single sizes) | given ↦ w.under (single given) | show ↦ omega (arith, f.0) ])
            (w.under table) (w.under rule) (w.under usage) (w.under unit) w.good_uses;
        in_place = record { on_time = omega (arith, f.0); room = refl };
        right = tt;
      }) f.1)
      (c.once show) [] (few_follow 1 (λ x. x < WORD_VALUES) (c.once show) [] (omega (arith, w.under (single show))) (w.good_once show))

  commands_taken : Takes (record_of nothing) (commands c) (record_of c)
  unfolding commands
  commands_taken =
      takes_both counts_taken
      (takes_both given_taken
      (takes_both tables_taken
      (takes_both rules_taken (takes_both uses_taken (takes_both units_taken (takes_both edges_taken shown_taken))))))

  -- behind the commands of lists within the limits reading goes on with their record
  pub commands_read : (rest : List ℕ) → reading (commands c ++ rest) ≡ walk (record_of c) (length (commands c)) 0 rest
  unfolding reading
  commands_read rest =
      let at : 0 + length (commands c) ≡ length (commands c) = omega arith in
      ap (λ (p : Plan). walk p 0 0 (commands c ++ rest)) (sym record_none) ∙ commands_taken.goes 0 rest
      ∙ ap (λ (n : ℕ). walk (record_of c) n 0 rest) at

-- "reading their layout accepts and gives the record of these lists"
pub layout_is_read : (c : Contents) → WithinLimits c → CountRight c → reading (layout c) ≡ accepted (record_of c)
layout_is_read c w right =
    let at : ℕ = length (commands c) in
    let counted : miscounted (record_of c) ≡ false = decided_false (decides_miscounted c (few_within w)) (λ n. n right) in
    commands_read c w end_bytes ∙ walk_ended (record_of c) at end_bytes (accepted (record_of c)) (end_step (record_of c) at counted)
