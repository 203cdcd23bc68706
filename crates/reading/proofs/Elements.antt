-- One command more, of any kind: its operands as an element of the plan's lists, when it fits behind them, and what it adds to their bytes
-- and to their record.
use Rattle.reading.proofs.Prelude.{◌≡◌, refl, ap, sym, ◌∙◌, subst, List, [], ◌∷◌, ◌++◌, append_assoc, append-nil, flat_map, List-as-Memᴰ, Bool, true}
use Rattle.reading.proofs.Prelude.{false, true≢false, ℕ, suc, ◌+◌, ◌*◌, ◌^◌, ◌≤◌, ◌<◌, arith, add-one, ones, length, take, drop, get_or, length-append}
use Rattle.reading.proofs.Prelude.{take-append-drop, drop-drop, ltb, leb-false, ltb-true, lt-leb, le-ltb, ne_eqb, not-false, padded, tabulate, Decides}
use Rattle.reading.proofs.Prelude.{Has, has, Apart, padded_snoc, get_or_tabulate, decides_has, decides_apart, decided_true, decided_false, not_both}
use Rattle.reading.proofs.Prelude.{decides_and, decides_not, decides_equal, MAX_TABLES, MAX_RULES, MAX_USES, MAX_UNITS, MAX_EDGES, MAX_INPUTS, uses_at}
use Rattle.reading.proofs.Prelude.{empty_plan, with_count, with_given, with_table, with_rule, with_use, with_unit, with_edge, with_show, WORD_BYTES}
use Rattle.reading.proofs.Prelude.{WORD_VALUES, word_at, Single, sizes, given, show, Kind, single, table, rule, usage, unit, edge, end, byte_of}
use Rattle.reading.proofs.Prelude.{operand_bytes, carrying, operand_rows, kind_discrete, Most, once, up_to, runs_out_at, most_of, order_of, earliest_behind}
use Rattle.reading.proofs.Prelude.{count, empty_rule, contradictory, bad_use, absent_rule, bad_edge, TableWords, RuleWords, TableUse, UnitPair, Contents}
use Rattle.reading.proofs.Prelude.{Element, list_of, at_most, word_bytes, count_bytes, given_bytes, table_bytes, rule_bytes, use_bytes, unit_bytes, edge_bytes}
use Rattle.reading.proofs.Prelude.{show_bytes, commands, word_of, uses_of, rule_words, predecessors_of, record_of, IsByte, All, AllDistinct, GoodOnce}
use Rattle.reading.proofs.Prelude.{GoodUse, GoodEdge, WithinLimits, command_bytes, kind_count, Plan}
use Rattle.reading.proofs.CommandKinds.{each_kind, none_behind}
use Rattle.reading.proofs.Numbers.{length_bytes, word_behind, word_bytes_lem, word_fits}
use Rattle.reading.proofs.Edges.{not_bad_edge}
use Rattle.reading.proofs.Uses.{not_bad_use}
use Rattle.reading.proofs.Tables.{decides_bad_table, right_table, no_wrong_table}
use Rattle.reading.proofs.Commands.{Passed, InPlace, Room, room_left, adds, grown, Leads}
use Rattle.reading.proofs.Pigeonhole.{edges_at_most}
use Rattle.reading.proofs.Predecessors.{has_member, member_has, rows_snoc}
use Rattle.reading.proofs.Program.{table_words_lem, table_words_long, tables_snoc, rules_snoc, bit_of, uses_word, use_has, has_use, uses_snoc}
use Rattle.reading.proofs.ElementLists.{length-snoc, all_snoc, distinct_snoc, flat_snoc, empty}

-- the contents with these lists
abbrev contents_of : ((k : Kind) → List (Element k)) → Contents
contents_of lists =
    record {
      once = λ s. lists (single s);
      tables = lists table;
      rules = lists rule;
      uses = lists usage;
      units = lists unit;
      edges = lists edge;
    }

abbrev pub nothing : Contents
nothing = contents_of (λ k. [])

-- the lists with one element more
abbrev added : (k : Kind) → Element k → (j : Kind) → List (Element j) → List (Element j)
added k x j xs = elim (kind_discrete k j) [ yes e ↦ xs ++ (subst Element e x ∷ []) | no n ↦ xs ]

abbrev pub with : Contents → (k : Kind) → Element k → Contents
with c k x = contents_of (λ j. added k x j (list_of c j))

-- ---- operands

-- the bytes of an element
abbrev pub operands_of : (k : Kind) → Element k → List ℕ
operands_of (single sizes) s = s.rules ∷ s.units ∷ s.edges ∷ []
operands_of (single given) w = word_bytes w
operands_of table t = word_bytes t.inputs ++ word_bytes t.truth
operands_of rule r = word_bytes r.head ++ (word_bytes r.positive ++ word_bytes r.negative)
operands_of usage x = x.rule ∷ x.table ∷ x.sign ∷ []
operands_of unit w = word_bytes w
operands_of edge e = e.u ∷ e.v ∷ []
operands_of (single show) w = word_bytes w
operands_of end x = []

-- the element that the bytes spell
abbrev pub element_at : (k : Kind) → List ℕ → Element k
element_at (single sizes) s = record { rules = get_or s 0 0; units = get_or s 1 0; edges = get_or s 2 0 }
element_at (single given) s = word_at 0 s
element_at table s = record { inputs = word_at 0 s; truth = word_at WORD_BYTES s }
element_at rule s = record { head = word_at 0 s; positive = word_at WORD_BYTES s; negative = word_at (2 * WORD_BYTES) s }
element_at usage s = record { rule = get_or s 0 0; table = get_or s 1 0; sign = get_or s 2 0 }
element_at unit s = word_at 0 s
element_at edge s = record { u = get_or s 0 0; v = get_or s 1 0 }
element_at (single show) s = word_at 0 s
element_at end s = tt

word_long : (w : ℕ) → length (word_bytes w) ≡ WORD_BYTES
word_long w = length_bytes WORD_BYTES w

pub operands_long : (k : Kind) (x : Element k) → length (operands_of k x) ≡ operand_bytes k
operands_long (single sizes) s = refl
operands_long (single given) w = word_long w
operands_long table t = simp (length-append, length_bytes WORD_BYTES t.inputs, length_bytes WORD_BYTES t.truth)
operands_long rule r =
    simp (length-append, length_bytes WORD_BYTES r.head, length_bytes WORD_BYTES r.positive, length_bytes WORD_BYTES r.negative)
operands_long usage x = refl
operands_long unit w = word_long w
operands_long edge e = refl
operands_long (single show) w = word_long w
operands_long end x = refl

-- the word's bytes at n
abbrev word_part : List ℕ → ℕ → List ℕ
word_part s n = take WORD_BYTES (drop n s)

word_more : (s : List ℕ) (n : ℕ) → word_part s n ++ drop (n + WORD_BYTES) s ≡ drop n s
word_more s n = ap (λ (t : List ℕ). word_part s n ++ t) (sym (drop-drop WORD_BYTES n s)) ∙ take-append-drop WORD_BYTES (drop n s)

-- bytes, read and written again
pub written_again : (k : Kind) (s : List ℕ) → operand_bytes k ≤ length s → All IsByte s → operands_of k (element_at k s) ++ drop (operand_bytes k) s ≡ s
written_again (single sizes) [] long b = absurd (omega arith)
written_again (single sizes) (x ∷ []) long b = absurd (omega arith)
written_again (single sizes) (x ∷ y ∷ []) long b = absurd (omega arith)
written_again (single sizes) (x ∷ y ∷ z ∷ s) long b = refl
written_again (single given) s long b = rw (word_bytes_lem s 0 (omega arith) b) (word_more s 0)
written_again table s long b =
    rw (word_bytes_lem s 0 (omega arith) b, word_bytes_lem s WORD_BYTES (omega arith) b)
    (append_assoc (word_part s 0) (word_part s WORD_BYTES) (drop (operand_bytes table) s)
    ∙ ap (λ (t : List ℕ). word_part s 0 ++ t) (word_more s WORD_BYTES) ∙ word_more s 0)
written_again rule s long b =
    rw (word_bytes_lem s 0 (omega arith) b, word_bytes_lem s WORD_BYTES (omega arith) b, word_bytes_lem s (2 * WORD_BYTES) (omega arith) b)
    (regroup (word_part s 0) (word_part s WORD_BYTES) (word_part s (2 * WORD_BYTES)) (drop (operand_bytes rule) s)
    ∙ ap (λ (t : List ℕ). word_part s 0 ++ (word_part s WORD_BYTES ++ t)) (word_more s (2 * WORD_BYTES))
    ∙ ap (λ (t : List ℕ). word_part s 0 ++ t) (word_more s WORD_BYTES) ∙ word_more s 0)
  where
    regroup : (x y z rest : List ℕ) → (x ++ (y ++ z)) ++ rest ≡ x ++ (y ++ (z ++ rest))
    regroup x y z rest = simp append_assoc
written_again usage [] long b = absurd (omega arith)
written_again usage (x ∷ []) long b = absurd (omega arith)
written_again usage (x ∷ y ∷ []) long b = absurd (omega arith)
written_again usage (x ∷ y ∷ z ∷ s) long b = refl
written_again unit s long b = rw (word_bytes_lem s 0 (omega arith) b) (word_more s 0)
written_again edge [] long b = absurd (omega arith)
written_again edge (x ∷ []) long b = absurd (omega arith)
written_again edge (x ∷ y ∷ s) long b = refl
written_again (single show) s long b = rw (word_bytes_lem s 0 (omega arith) b) (word_more s 0)
written_again end s long b = refl

-- ---- what fits behind the lists

-- words of 64 bits
abbrev pub Sized : (k : Kind) → Element k → Type 0
Sized (single s) x = GoodOnce s x
Sized table t = (t.inputs < WORD_VALUES) × (t.truth < WORD_VALUES)
Sized rule r = (r.head < WORD_VALUES) × ((r.positive < WORD_VALUES) × (r.negative < WORD_VALUES))
Sized usage x = Unit {0}
Sized unit w = w < WORD_VALUES
Sized edge e = Unit {0}
Sized end x = Unit {0}

pub sized : (k : Kind) (s : List ℕ) → operand_bytes k ≤ length s → All IsByte s → Sized k (element_at k s)
sized (single sizes) s long b = tt
sized (single given) s long b = word_fits s 0 (omega arith) b
sized table s long b = (word_fits s 0 (omega arith) b, word_fits s WORD_BYTES (omega arith) b)
sized rule s long b = (word_fits s 0 (omega arith) b, (word_fits s WORD_BYTES (omega arith) b, word_fits s (2 * WORD_BYTES) (omega arith) b))
sized unit s long b = word_fits s 0 (omega arith) b
sized usage s long b = tt
sized edge s long b = tt
sized (single show) s long b = word_fits s 0 (omega arith) b
sized end s long b = tt

-- rows 18, 6, 21, 19, 7 and 8
abbrev pub Right : Contents → (k : Kind) → Element k → Type 0
Right c (single s) x = Unit {0}
Right c table t = (ones t.inputs ≤ MAX_INPUTS) × ((j : ℕ) → Has t.truth j → j < 2 ^ ones t.inputs)
Right c rule r = (¬ ((r.head ≡ 0) × ((r.positive ≡ 0) × (r.negative ≡ 0)))) × Apart r.positive r.negative
Right c usage x = GoodUse (length c.rules) (length c.tables) x × ¬ List-as-Memᴰ x c.uses
Right c unit w = w < 2 ^ length c.rules
Right c edge e = GoodEdge (length c.units) e × ¬ List-as-Memᴰ e c.edges
Right c end x = Unit {0}

-- no more than column "most" allows
abbrev pub Under : Most → ℕ → Type 0
Under once n = n ≤ 1
Under (up_to m) n = n ≤ m
Under (runs_out_at m) n = Unit {0}

-- what holds of the lists of every record that is read
pub record Few (c : Contents) : Type 0 where
  pub under : (k : Kind) → Under (most_of k) (kind_count c k)
  pub good_uses : All (GoodUse (length c.rules) (length c.tables)) c.uses

pub few_so : (c : Contents) → ((s : Single) → length (c.once s) ≤ 1) → length c.tables ≤ MAX_TABLES → length c.rules ≤ MAX_RULES
    → length c.uses ≤ MAX_USES → length c.units ≤ MAX_UNITS → All (GoodUse (length c.rules) (length c.tables)) c.uses → Few c
few_so c o t r x u good =
    record { under = elim [ single s ↦ o s | table ↦ t | rule ↦ r | usage ↦ x | unit ↦ u | edge ↦ tt | end ↦ tt ]; good_uses = good }

pub few_within : {c : Contents} → WithinLimits c → Few c
few_within {c} w = few_so c (λ s. w.under (single s)) (w.under table) (w.under rule) (w.under usage) (w.under unit) w.good_uses

pub record Held (c : Contents) : Type 0 where
  pub few : Few c
  pub no_use_again : AllDistinct c.uses
  pub good_edges : All (GoodEdge (length c.units)) c.edges
  pub no_repeat : AllDistinct c.edges

pub record Fits (c : Contents) (k : Kind) (x : Element k) : Type 0 where
  pub few : Few c
  pub in_place : InPlace (record_of c) k
  pub right : Right c k x

-- an element, written and read again
pub read_again : (k : Kind) (x : Element k) (rest : List ℕ) → Sized k x → element_at k (operands_of k x ++ rest) ≡ x
read_again (single sizes) s rest g = refl
read_again (single given) w rest g = word_behind [] 0 w rest refl g
read_again table t rest g =
    let n = word_bytes t.inputs in
    let first : word_at 0 ((n ++ word_bytes t.truth) ++ rest) ≡ t.inputs = rw append_assoc (word_behind [] 0 t.inputs _ refl g.0) in
    let second : word_at WORD_BYTES ((n ++ word_bytes t.truth) ++ rest) ≡ t.truth =
    rw append_assoc (word_behind n WORD_BYTES t.truth rest (word_long t.inputs) g.1) in
    λ i. record { inputs = first i; truth = second i }
read_again rule r rest g =
    let h = word_bytes r.head in
    let p = word_bytes r.positive in
    let n = word_bytes r.negative in
    let two : length (h ++ p) ≡ 2 * WORD_BYTES = length-append h p ∙ omega (arith, word_long r.head, word_long r.positive) in
    let first : word_at 0 ((h ++ (p ++ n)) ++ rest) ≡ r.head = rw append_assoc (word_behind [] 0 r.head _ refl g.0) in
    let second : word_at WORD_BYTES ((h ++ (p ++ n)) ++ rest) ≡ r.positive =
    rw (append_assoc, append_assoc) (word_behind h WORD_BYTES r.positive _ (word_long r.head) g.1.0) in
    let third : word_at (2 * WORD_BYTES) ((h ++ (p ++ n)) ++ rest) ≡ r.negative =
    rw (← append_assoc h p n, append_assoc (h ++ p) n rest) (word_behind (h ++ p) (2 * WORD_BYTES) r.negative rest two g.1.1) in
    λ i. record { head = first i; positive = second i; negative = third i }
read_again usage x rest g = refl
read_again unit w rest g = word_behind [] 0 w rest refl g
read_again edge e rest g = refl
read_again (single show) w rest g = word_behind [] 0 w rest refl g
read_again end x rest g = refl

pub decides_empty : (h b n : ℕ) → Decides (((h ≡ 0) × (b ≡ 0)) × (n ≡ 0)) (empty_rule h b n)
unfolding empty_rule
decides_empty h b n = decides_and (decides_and (decides_equal h 0) (decides_equal b 0)) (decides_equal n 0)

pub decides_contradictory : (b n : ℕ) → Decides (¬ Apart b n) (contradictory b n)
unfolding contradictory
decides_contradictory b n = decides_not (decides_apart b n)

none_shared : (b n : ℕ) → contradictory b n ≡ false → Apart b n
unfolding contradictory
none_shared b n e = (decides_apart b n).yes (not-false _ e)

module _ (c : Contents) (few : Few c) where
  pub row_is : (u : ℕ) → u < length c.units → get_or (tabulate MAX_UNITS (predecessors_of c.edges)) u 0 ≡ predecessors_of c.edges u
  row_is u l = get_or_tabulate MAX_UNITS (predecessors_of c.edges) u (omega (arith, few.under unit))

  -- the word of a rule's uses, and the use that a bit stands for
  pub uses_are : (r : ℕ) → r < length c.rules → get_or (record_of c).rules (uses_at r) 0 ≡ uses_of c.uses r
  unfolding record_of
  uses_are r l = uses_word c.uses (table_words_lem c.tables) c.rules r (table_words_long c.tables (few.under table)) (few.under rule) l

  pub bit_of_use : (x : TableUse) → x.table < length c.tables → Has (uses_of c.uses x.rule) (bit_of x) → List-as-Memᴰ x c.uses
  bit_of_use x l h = has_use c.uses x (below c.uses few.good_uses) (omega (arith, few.under table)) h
    where
      below : (uses : List TableUse) → All (GoodUse (length c.rules) (length c.tables)) uses → All (λ y. y.table < MAX_TABLES) uses
      below [] a = tt
      below (y ∷ uses) a = (omega (arith, a.0.table_there, few.under table), below uses a.1)

module _ (c : Contents) (at : ℕ) (s : List ℕ) (few : Few c) where
  -- no row of its operands stops an element exactly if it is right
  pub passed_right : (k : Kind) → Passed (operand_rows (record_of c) at k s) → Right c k (element_at k s)
  unfolding record_of absent_rule
  passed_right (single s) h = tt
  passed_right table h = right_table (element_at table s) ((decides_bad_table (element_at table s)).no h.0)
  passed_right rule h = (λ z. (decides_empty _ _ _).no h.0 ((z.0, z.1.0), z.1.1), none_shared _ _ h.1.0)
  passed_right usage h =
      let x : TableUse = element_at usage s in
      let new = not_bad_use (record_of c) x.rule x.table x.sign h.0 in
      let absent : has (uses_of c.uses x.rule) (bit_of x) ≡ false = rw (uses_are c few x.rule new.rule_there) at new.fresh in (
        record { rule_there = new.rule_there; table_there = new.table_there; zero_or_one = new.zero_or_one },
        λ m. not_both (decided_true (decides_has _ _) (use_has c.uses x m)) absent,
      )
  passed_right unit h = leb-false _ _ h.0
  passed_right edge h =
      let e : UnitPair = element_at edge s in
      let new = not_bad_edge (record_of c) e.u e.v h.0 in
      let absent : has (predecessors_of c.edges e.u) e.v ≡ false = rw (row_is c few e.u new.from_there) at new.fresh in (
        record { from_there = new.from_there; to_there = new.to_there; apart = new.apart },
        λ m. not_both (decided_true (decides_has _ _) (member_has c.edges e m)) absent,
      )
  passed_right end h = tt

  pub right_passed : (k : Kind) → adds k ≡ true → Right c k (element_at k s) → Passed (operand_rows (record_of c) at k s)
  unfolding record_of bad_use absent_rule bad_edge
  right_passed (single s) a g = tt
  right_passed table a g = (decided_false (decides_bad_table (element_at table s)) (no_wrong_table (element_at table s) g.0 g.1), tt)
  right_passed rule a g = (
    decided_false (decides_empty _ _ _) (λ z. g.0 (z.0.0, (z.0.1, z.1))),
    (decided_false (decides_contradictory _ _) (λ n. n g.1), tt),
  )
  right_passed usage a g =
      let x : TableUse = element_at usage s in
      let t = g.0 in
      let absent : has (uses_of c.uses x.rule) (bit_of x) ≡ false =
      decided_false (decides_has _ _) (λ h. g.1 (bit_of_use c few x t.table_there h)) in (
        simp (
          lt-leb _ _ t.rule_there,
          lt-leb _ _ t.table_there,
          le-ltb _ _ t.zero_or_one,
          uses_are c few x.rule t.rule_there,
          absent,
        ),
        tt,
      )
  right_passed unit a g = (lt-leb _ _ g, tt)
  right_passed edge a g =
      let e : UnitPair = element_at edge s in
      let t = g.0 in
      let absent : has (predecessors_of c.edges e.u) e.v ≡ false = decided_false (decides_has _ _) (λ h. g.1 (has_member c.edges e h)) in
      (simp (lt-leb _ _ t.from_there, lt-leb _ _ t.to_there, ne_eqb _ _ t.apart, row_is c few e.u t.from_there, absent), tt)
  right_passed end a g = absurd (true≢false (sym a))

-- ---- the lists, one element more

pub count_of : (c : Contents) (k : Kind) → count (record_of c) k ≡ kind_count c k
unfolding record_of
count_of c (single sizes) = refl
count_of c (single given) = refl
count_of c table = refl
count_of c rule = refl
count_of c usage = refl
count_of c unit = refl
count_of c edge = refl
count_of c (single show) = refl
count_of c end = refl

-- a list of the contents is no longer than the one it is made of
lists_long : (lists : (k : Kind) → List (Element k)) (j : Kind) → kind_count (contents_of lists) j ≤ length (lists j)
lists_long lists (single s) = omega arith
lists_long lists table = omega arith
lists_long lists rule = omega arith
lists_long lists usage = omega arith
lists_long lists unit = omega arith
lists_long lists edge = omega arith
lists_long lists end = omega arith

under_less : (m : Most) {a b : ℕ} → a ≤ b → Under m b → Under m a
under_less once l h = omega arith
under_less (up_to m) l h = omega arith
under_less (runs_out_at m) l h = tt

-- behind a command that may stand once none of its kind comes
abbrev closes : Kind → Bool
closes k = elim (most_of k) [ once ↦ ltb (order_of k) (order_of (earliest_behind k)) | up_to n ↦ true | runs_out_at n ↦ true ]

-- where a command is in place there is room for one more
one_more : (c : Contents) (k : Kind) → InPlace (record_of c) k → Under (most_of k) (suc (kind_count c k))
one_more c k i = go (most_of k) refl (subst (Room (most_of k)) (count_of c k) (room_left k i))
  where
    none_there : most_of k ≡ once → kind_count c k ≤ 0
    none_there e =
        let closed : ltb (order_of k) (order_of (earliest_behind k)) ≡ true = rw (e, closes) at (each_kind closes refl k) in
        omega (arith, count_of c k, none_behind (record_of c) (order_of k) i.on_time k (ltb-true _ _ closed))

    go : (m : Most) → most_of k ≡ m → Room m (kind_count c k) → Under m (suc (kind_count c k))
    go once e r = omega (arith, none_there e)
    go (up_to m) e r = omega arith
    go (runs_out_at m) e r = tt

few_with : (c : Contents) (k : Kind) (x : Element k) → Few c → InPlace (record_of c) k → (j : Kind) → Under (most_of j) (kind_count (with c k x) j)
few_with c k x few i j = under_less (most_of j) (lists_long (λ h. added k x h (list_of c h)) j) (go (kind_discrete k j))
  where
    go : (d : Dec (k ≡ j))
        → Under (most_of j) (length {A = Element j} (elim d [ yes e ↦ list_of c j ++ (subst Element e x ∷ []) | no n ↦ list_of c j ]))
    go (yes e) =
        subst (Under (most_of j)) (sym (length-snoc (list_of c j) (subst Element e x) ∙ add-one (kind_count c j)))
        (subst (λ (h : Kind). Under (most_of h) (suc (kind_count c h))) e (one_more c k i))
    go (no n) = few.under j

held_with : (c : Contents) (k : Kind) (x : Element k) → Held c → Fits c k x → Held (with c k x)
unfolding record_of
held_with c (single s) x h f =
    record {
      few = record { under = few_with c (single s) x f.few f.in_place; good_uses = f.few.good_uses };
      no_use_again = h.no_use_again;
      good_edges = h.good_edges;
      no_repeat = h.no_repeat;
    }
held_with c table t h f =
    record {
      few =
          record {
            under = few_with c table t f.few f.in_place;
            good_uses = rw (empty c.uses (omega (arith, f.in_place.on_time))) tt;
          };
      no_use_again = h.no_use_again;
      good_edges = h.good_edges;
      no_repeat = h.no_repeat;
    }
held_with c rule r h f =
    record {
      few =
          record {
            under = few_with c rule r f.few f.in_place;
            good_uses = rw (empty c.uses (omega (arith, f.in_place.on_time))) tt;
          };
      no_use_again = h.no_use_again;
      good_edges = h.good_edges;
      no_repeat = h.no_repeat;
    }
held_with c usage x h f =
    record {
      few =
          record {
            under = few_with c usage x f.few f.in_place;
            good_uses = all_snoc (GoodUse (length c.rules) (length c.tables)) c.uses x f.few.good_uses f.right.0;
          };
      no_use_again = distinct_snoc c.uses x h.no_use_again f.right.1;
      good_edges = h.good_edges;
      no_repeat = h.no_repeat;
    }
held_with c unit w h f =
    record {
      few = record { under = few_with c unit w f.few f.in_place; good_uses = f.few.good_uses };
      no_use_again = h.no_use_again;
      good_edges = rw (empty c.edges (omega (arith, f.in_place.on_time))) tt;
      no_repeat = h.no_repeat;
    }
held_with c edge e h f =
    record {
      few = record { under = few_with c edge e f.few f.in_place; good_uses = f.few.good_uses };
      no_use_again = h.no_use_again;
      good_edges = all_snoc (GoodEdge (length c.units)) c.edges e h.good_edges f.right.0;
      no_repeat = distinct_snoc c.edges e h.no_repeat f.right.1;
    }
held_with c end x h f = h

pub held_none : Held nothing
held_none =
    record {
      few = few_so nothing (λ s. omega arith) (omega arith) (omega arith) (omega arith) (omega arith) tt;
      no_use_again = tt;
      good_edges = tt;
      no_repeat = tt;
    }

pub few_edges : (c : Contents) → Held c → length c.edges ≤ MAX_EDGES
few_edges c h = edges_at_most c.edges (below c.edges h.good_edges) h.no_repeat
  where
    below : (edges : List UnitPair) → All (GoodEdge (length c.units)) edges → All (GoodEdge MAX_UNITS) edges
    below [] a = tt
    below (e ∷ edges) a =
        let g = a.0 in
        let l = h.few.under unit in
        (record { from_there = omega (arith, g.from_there); to_there = omega (arith, g.to_there); apart = g.apart }, below edges a.1)

-- column "most"
pub within_most : (c : Contents) → Held c → (k : Kind) → kind_count c k ≤ at_most k
within_most c h (single s) = h.few.under (single s)
within_most c h table = h.few.under table
within_most c h rule = h.few.under rule
within_most c h usage = h.few.under usage
within_most c h unit = h.few.under unit
within_most c h edge = few_edges c h
within_most c h end = omega arith

-- ---- the bytes

pub commands_with : (c : Contents) (k : Kind) (x : Element k) (t : List ℕ) → adds k ≡ true → InPlace (record_of c) k
    → commands (with c k x) ++ t ≡ commands c ++ (byte_of k ∷ (operands_of k x ++ t))
unfolding commands record_of flat_map
commands_with c (single sizes) s t a h =
    let behind = h.on_time in
    rw (
      empty (c.once given) (omega arith),
      empty c.tables (omega arith),
      empty c.rules (omega arith),
      empty c.uses (omega arith),
      empty c.units (omega arith),
      empty c.edges (omega arith),
      empty (c.once show) (omega arith),
      flat_snoc count_bytes (c.once sizes) s,
    )
    (simp (append-nil, append_assoc))
commands_with c (single given) w t a h =
    let behind = h.on_time in
    rw (
      empty c.tables (omega arith),
      empty c.rules (omega arith),
      empty c.uses (omega arith),
      empty c.units (omega arith),
      empty c.edges (omega arith),
      empty (c.once show) (omega arith),
      flat_snoc given_bytes (c.once given) w,
    )
    (simp (append-nil, append_assoc))
commands_with c table x t a h =
    let behind = h.on_time in
    rw (
      empty c.rules (omega arith),
      empty c.uses (omega arith),
      empty c.units (omega arith),
      empty c.edges (omega arith),
      empty (c.once show) (omega arith),
      flat_snoc table_bytes c.tables x,
    )
    (simp (append-nil, append_assoc))
commands_with c rule r t a h =
    let behind = h.on_time in
    rw (
      empty c.uses (omega arith),
      empty c.units (omega arith),
      empty c.edges (omega arith),
      empty (c.once show) (omega arith),
      flat_snoc rule_bytes c.rules r,
    )
    (simp (append-nil, append_assoc))
commands_with c usage x t a h =
    let behind = h.on_time in
    rw (empty c.units (omega arith), empty c.edges (omega arith), empty (c.once show) (omega arith), flat_snoc use_bytes c.uses x)
    (simp (append-nil, append_assoc))
commands_with c unit w t a h =
    let behind = h.on_time in
    rw (empty c.edges (omega arith), empty (c.once show) (omega arith), flat_snoc unit_bytes c.units w) (simp (append-nil, append_assoc))
commands_with c edge e t a h =
    rw (empty (c.once show) (omega (arith, h.on_time)), flat_snoc edge_bytes c.edges e) (simp (append-nil, append_assoc))
commands_with c (single show) w t a h = rw (flat_snoc show_bytes (c.once show) w) (simp append_assoc)
commands_with c end x t a h = absurd (true≢false (sym a))

pub commands_longer : (c : Contents) (k : Kind) (x : Element k) → adds k ≡ true → InPlace (record_of c) k
    → length (commands (with c k x)) ≡ length (commands c) + command_bytes k
commands_longer c k x a h =
    omega (arith, simp (append-nil, length-append) at (ap length (commands_with c k x [] a h)), operands_long k x)

-- ---- the record

pub record_none : record_of nothing ≡ empty_plan
unfolding record_of empty_plan padded tabulate predecessors_of word_of rule_words flat_map
record_none = refl

same_plan : {p q : Plan} → p.once ≡ q.once → p.rules ≡ q.rules → p.table_count ≡ q.table_count → p.rule_count ≡ q.rule_count
    → p.use_count ≡ q.use_count → p.units ≡ q.units → p.unit_count ≡ q.unit_count → p.predecessors ≡ q.predecessors
    → p.edge_count ≡ q.edge_count → p ≡ q
same_plan o a t b u c d e f =
    λ i. record {
      once = o i;
      rules = a i;
      table_count = t i;
      rule_count = b i;
      use_count = u i;
      units = c i;
      unit_count = d i;
      predecessors = e i;
      edge_count = f i;
    }

-- the record of the lists with one element more
pub record_with : (c : Contents) (k : Kind) (s : List ℕ) → Fits c k (element_at k s) → grown (record_of c) k s ≡ record_of (with c k (element_at k s))
unfolding record_of with_count with_given with_table with_rule with_use with_unit with_edge with_show carrying
record_with c (single sizes) s f =
    let first = empty (c.once sizes) (omega (arith, f.in_place.on_time)) in
    same_plan (rw first) refl refl refl refl refl refl refl refl
record_with c (single given) s f =
    let first = empty (c.once given) (omega (arith, f.in_place.on_time)) in
    same_plan (rw first) refl refl refl refl refl refl refl refl
record_with c table s f =
    let t : TableWords = element_at table s in
    let e = tables_snoc c.tables t _ (room_left table f.in_place) in
    same_plan refl e (sym (length-snoc c.tables t)) refl refl refl refl refl refl
record_with c rule s f =
    let r : RuleWords = element_at rule s in
    let whole = table_words_long c.tables (f.few.under table) in
    let unused = empty c.uses (omega (arith, f.in_place.on_time)) in
    let e = rules_snoc (table_words_lem c.tables) c.uses c.rules r whole (room_left rule f.in_place) unused in
    same_plan refl e refl (sym (length-snoc c.rules r)) refl refl refl refl refl
record_with c usage s f =
    let x : TableUse = element_at usage s in
    let whole = table_words_long c.tables (f.few.under table) in
    let e = uses_snoc c.uses x (table_words_lem c.tables) c.rules whole (f.few.under rule) f.right.0.rule_there in
    same_plan refl e refl refl (sym (length-snoc c.uses x)) refl refl refl refl
record_with c unit s f =
    let w : ℕ = element_at unit s in
    let e = padded_snoc MAX_UNITS c.units (length c.units) w refl (room_left unit f.in_place) in
    same_plan refl refl refl refl refl e (sym (length-snoc c.units w)) refl refl
record_with c edge s f =
    let x : UnitPair = element_at edge s in
    let e = rows_snoc c.edges x (omega (arith, f.right.0.from_there, f.few.under unit)) in
    same_plan refl refl refl refl refl refl refl e (sym (length-snoc c.edges x))
record_with c (single show) s f =
    let first = empty (c.once show) (omega (arith, f.in_place.on_time)) in
    same_plan (rw first) refl refl refl refl refl refl refl refl
record_with c end s f = refl

-- one command more, behind the record of the lists
pub record More (c : Contents) (k : Kind) (x : Element k) (q : Plan) : Type 0 where
  pub fits : Fits c k x
  pub held : Held (with c k x)
  pub is : q ≡ record_of (with c k x)

pub more : (c : Contents) (k : Kind) (at : ℕ) (s : List ℕ) (q : Plan) → Held c → (l : Leads k (record_of c) at s q)
    → More c k (element_at k l.read.operands) q
more c k at s q h l =
    let t = l.read.operands in
    let fits : Fits c k (element_at k t) =
    record { few = h.few; in_place = l.read.in_place; right = passed_right c at t h.few k l.read.right } in
    record { fits = fits; held = held_with c k (element_at k t) h fits; is = sym l.is ∙ record_with c k t fits }
