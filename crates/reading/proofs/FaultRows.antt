-- The rows of the fault table in their two forms: as `rows` tests a command, and as `reading_place_of` states them of lists and bytes. At the
-- record of the lists each test decides its row, so the first row that fits is the same.
use Rattle.reading.proofs.Prelude.{◌≡◌, refl, ap, sym, ◌∙◌, subst, List, [], ◌∷◌, ◌++◌, List-as-Memᴰ, Bool, true, false, true≢false, ◌⊎◌, inl, inr}
use Rattle.reading.proofs.Prelude.{Option, some, none, ℕ, suc, ◌*◌, ◌^◌, ◌≤◌, ◌<◌, arith, dec_lt, add-one, length, drop, get_or, eqb, ltb, leb, eqb-true}
use Rattle.reading.proofs.Prelude.{eqb-false, leb-true, leb-false, ltb-true, ltb-false, Decides, Has, Apart, ◌∩◌, below, tabulate, decides_iff}
use Rattle.reading.proofs.Prelude.{decides_or, decides_equal, decides_has, has_lt, has_cut, cut_left, cut_right, has_none, some_atom, MAX_UNITS}
use Rattle.reading.proofs.Prelude.{uses_at, number, spot, FaultRow, FirstFit, WORD_BYTES, word_at, Kind, single, sizes, given, show, table, rule, usage}
use Rattle.reading.proofs.Prelude.{unit, edge, end, byte_of, kind_of, operand_bytes, order_of, carrying, kinds, late, full, empty_rule, contradictory}
use Rattle.reading.proofs.Prelude.{bad_table, bad_use, absent_rule, bad_edge, miscounted, Row, operand_rows, rows, first_fit, of_kind, command_at, RuleWords}
use Rattle.reading.proofs.Prelude.{TableUse, UnitPair, Contents, Element, predecessors_of, record_of, IsByte, All, CountRight, Line, UnknownByte}
use Rattle.reading.proofs.Prelude.{OutOfGroupOrder, OneTooMany, CutShort, before_end, inside_operands, NoTable, WrongTable, NoNewUse, no_such_rule}
use Rattle.reading.proofs.Prelude.{no_such_table, another_sign, again, WrongUse, ZeroRule, ContradictoryRule, NamesAbsentRule, NoNewEdge, no_such_u}
use Rattle.reading.proofs.Prelude.{no_such_v, to_itself, repeated, WrongEdge, Miscounted, BytesAfterEnd, fault_row, reading_place_of, Truncated}
use Rattle.reading.proofs.Prelude.{UnknownCommand, Command, Fault as Faulty}
use Rattle.reading.proofs.Numbers.{word_fits}
use Rattle.reading.proofs.HighBits.{atom_from}
use Rattle.reading.proofs.CommandKinds.{kind_of_byte, kind_byte, byte_own, each_kind, count_behind, late_counted}
use Rattle.reading.proofs.CommandLines.{kind_line, line_kind, kind_late, late_kind, kind_full, full_kind}
use Rattle.reading.proofs.Commands.{Passed, none_fits, known_command, unknown_command, not_faulty}
use Rattle.reading.proofs.Predecessors.{has_member, member_has}
use Rattle.reading.proofs.Sizes.{decides_miscounted, some_wrong, none_wrong}
use Rattle.reading.proofs.Tables.{decides_bad_table}
use Rattle.reading.proofs.Program.{bit_of, use_has}
use Rattle.reading.proofs.Elements.{operands_of, element_at, written_again, read_again, Sized, Few, decides_empty, decides_contradictory, row_is}
use Rattle.reading.proofs.Elements.{uses_are, bit_of_use}
use Rattle.plan.specs.declared.fault.Fault.{Fault}

-- ---- tests against rows

-- the test r decides the row t
record Meets (r : Row) (t : FaultRow) : Type 0 where
  numbered : number r.fault ≡ t.no
  placed : spot r.fault ≡ t.at
  decides : Decides t.Fits r.fits

meet : {r : Row} {t : FaultRow} → number r.fault ≡ t.no → spot r.fault ≡ t.at → Decides t.Fits r.fits → Meets r t
meet n s d = record { numbered = n; placed = s; decides = d }

-- row by row: a row that no test stands for does not fit, and each test decides its row where those above it do not fit
data Agree : List Row → List FaultRow → Type 1 where
  done : Agree [] []
  skips : {rs : List Row} {t : FaultRow} {ts : List FaultRow} → ¬ t.Fits → Agree rs ts → Agree rs (t ∷ ts)
  meets : {r : Row} {rs : List Row} {t : FaultRow} {ts : List FaultRow} → Meets r t → (r.fits ≡ false → Agree rs ts) → Agree (r ∷ rs) (t ∷ ts)

-- where no test fits, no row does
none_first : {rs : List Row} {ts : List FaultRow} → Agree rs ts → Passed rs → (n s : ℕ) → ¬ FirstFit ts n s
none_first done h n s f = f
none_first (skips no-fit a) h n s (inl here) = no-fit here.0
none_first (skips no-fit a) h n s (inr later) = none_first a h n s later.1
none_first (meets m a) h n s (inl here) = m.decides.no h.0 here.0
none_first (meets m a) h n s (inr later) = none_first (a h.0) h.1 n s later.1

-- the fault of the first test that fits is that of the first row
record FirstIs (rs : List Row) (ts : List FaultRow) (x : Command) : Type 0 where
  fault : Fault
  is : first_fit rs x ≡ Faulty fault
  first : FirstFit ts (number fault) (spot fault)

same_first : {rs : List Row} {ts : List FaultRow} (x : Command) → Agree rs ts → Passed rs ⊎ FirstIs rs ts x
same_first x done = inl tt
same_first x (skips {rs} {t} {ts} no-fit a) = go (same_first x a)
  where
    go : Passed rs ⊎ FirstIs rs ts x → Passed rs ⊎ FirstIs rs (t ∷ ts) x
    go (inl h) = inl h
    go (inr f) = inr (record { fault = f.fault; is = f.is; first = inr (no-fit, f.first) })
same_first x (meets {r} {rs} {t} {ts} m a) = go r.fits refl (λ e. same_first x (a e))
  where
    go : (b : Bool) → r.fits ≡ b → (r.fits ≡ false → Passed rs ⊎ FirstIs rs ts x) → Passed (r ∷ rs) ⊎ FirstIs (r ∷ rs) (t ∷ ts) x
    go true e rec = inr (record { fault = r.fault; is = rw e; first = inl (m.decides.yes e, (m.numbered, m.placed)) })
    go false e rec = below (rec e)
      where
        below : Passed rs ⊎ FirstIs rs ts x → Passed (r ∷ rs) ⊎ FirstIs (r ∷ rs) (t ∷ ts) x
        below (inl h) = inl (e, h)
        below (inr f) = inr (record { fault = f.fault; is = rw e f.is; first = inr (m.decides.no e, f.first) })

-- only one row is the first that fits
first_one : (ts : List FaultRow) (n m s r : ℕ) → FirstFit ts n s → FirstFit ts m r → (n ≡ m) × (s ≡ r)
first_one [] n m s r f g = absurd f
first_one (t ∷ ts) n m s r (inl (a, (p, q))) (inl (b, (v, w))) = (p ∙ sym v, q ∙ sym w)
first_one (t ∷ ts) n m s r (inl (a, e)) (inr (b, g)) = absurd (b a)
first_one (t ∷ ts) n m s r (inr (a, f)) (inl (b, e)) = absurd (a b)
first_one (t ∷ ts) n m s r (inr (a, f)) (inr (b, g)) = first_one ts n m s r f g

-- ---- the first byte

head_same : {a b : ℕ} {s t : List ℕ} → a ∷ s ≡ b ∷ t → a ≡ b
head_same e = cc

tail_same : {a b : ℕ} {s t : List ℕ} → a ∷ s ≡ b ∷ t → s ≡ t
tail_same e = cc

no_byte : {b : ℕ} {s : List ℕ} → [] ≡ b ∷ s → ⊥
no_byte e = let z : ◌≡◌ {A = ℕ} 0 1 = cc in omega arith

-- ---- what the tests decide

decides_le : (a b : ℕ) → Decides (a ≤ b) (leb a b)
decides_le a b = record { yes = leb-true a b; no = λ e h. omega (arith, leb-false a b e) }

-- words that are not apart share an atom
shared_atom : (a b : ℕ) → ¬ Apart a b → (i : ℕ) × Has a i × Has b i
shared_atom a b n =
    let i = some_atom (a ∩ b) (λ e. n (record { none = λ j p q. has_none (subst (λ (x : ℕ). Has x j) e (has_cut a b p q)) })) in
    (i.0, cut_left a b i.1, cut_right a b i.1)

module _ (c : Contents) (few : Few c) where
  decides_bad_use : (x : TableUse) → Decides (NoNewUse c x) (bad_use (record_of c) x.rule x.table x.sign)
  unfolding record_of bad_use
  decides_bad_use x =
      decides_iff tested stated (decides_or (decides_or (decides_or (decides_le _ _) (decides_le _ _)) (decides_le _ _)) (decides_has _ _))
    where
      word : ℕ
      word = get_or (record_of c).rules (uses_at x.rule) 0

      Tested : Type 0
      Tested = (((length c.rules ≤ x.rule) ⊎ (length c.tables ≤ x.table)) ⊎ (2 ≤ x.sign)) ⊎ Has word (bit_of x)

      in_word : Dec (x.rule < length c.rules) → Dec (x.table < length c.tables) → Has word (bit_of x) → NoNewUse c x
      in_word (yes l) (yes k) h = again (bit_of_use c few x k (subst (λ (w : ℕ). Has w (bit_of x)) (uses_are c few x.rule l) h))
      in_word (yes l) (no k) h = no_such_table (omega arith)
      in_word (no l) k h = no_such_rule (omega arith)

      tested : Tested → NoNewUse c x
      tested (inl (inl (inl h))) = no_such_rule h
      tested (inl (inl (inr h))) = no_such_table h
      tested (inl (inr h)) = another_sign (λ e. omega arith) (λ e. omega arith)
      tested (inr h) = in_word (dec_lt x.rule (length c.rules)) (dec_lt x.table (length c.tables)) h

      as_word : Dec (x.rule < length c.rules) → List-as-Memᴰ x c.uses → Tested
      as_word (yes l) m = inr (subst (λ (w : ℕ). Has w (bit_of x)) (sym (uses_are c few x.rule l)) (use_has c.uses x m))
      as_word (no l) m = inl (inl (inl (omega arith)))

      stated : NoNewUse c x → Tested
      stated (no_such_rule h) = inl (inl (inl h))
      stated (no_such_table h) = inl (inl (inr h))
      stated (another_sign h k) = inl (inr (omega arith))
      stated (again m) = as_word (dec_lt x.rule (length c.rules)) m

  pub decides_bad : (e : UnitPair) → Decides (NoNewEdge c e) (bad_edge (record_of c) e.u e.v)
  unfolding record_of bad_edge
  decides_bad e =
      decides_iff tested stated
      (decides_or (decides_or (decides_or (decides_le _ _) (decides_le _ _)) (decides_equal _ _)) (decides_has _ _))
    where
      Tested : Type 0
      Tested =
          (((length c.units ≤ e.u) ⊎ (length c.units ≤ e.v)) ⊎ (e.u ≡ e.v))
          ⊎ Has (get_or (tabulate MAX_UNITS (predecessors_of c.edges)) e.u 0) e.v

      in_row : Dec (e.u < length c.units) → Has (get_or (tabulate MAX_UNITS (predecessors_of c.edges)) e.u 0) e.v → NoNewEdge c e
      in_row (yes l) h = repeated (has_member c.edges e (subst (λ (w : ℕ). Has w e.v) (row_is c few e.u l) h))
      in_row (no l) h = no_such_u (omega arith)

      tested : Tested → NoNewEdge c e
      tested (inl (inl (inl h))) = no_such_u h
      tested (inl (inl (inr h))) = no_such_v h
      tested (inl (inr h)) = to_itself h
      tested (inr h) = in_row (dec_lt e.u (length c.units)) h

      as_row : Dec (e.u < length c.units) → List-as-Memᴰ e c.edges → Tested
      as_row (yes l) m = inr (subst (λ (w : ℕ). Has w e.v) (sym (row_is c few e.u l)) (member_has c.edges e m))
      as_row (no l) m = inl (inl (inl (omega arith)))

      stated : NoNewEdge c e → Tested
      stated (no_such_u h) = inl (inl (inl h))
      stated (no_such_v h) = inl (inl (inr h))
      stated (to_itself h) = inl (inr h)
      stated (repeated m) = as_row (dec_lt e.u (length c.units)) m

-- ---- a command of a known kind: row by row

module _ (c : Contents) (few : Few c) (operands : List ℕ) where
  known : (k : Kind) → ¬ UnknownByte (byte_of k ∷ operands)
  known k u = u.names_none (operand_bytes k) (subst (λ (b : ℕ). Line b (operand_bytes k)) (head_same u.is) (kind_line k))

  -- a byte that begins them is that of their kind
  own : (k : Kind) {b : ℕ} {s : List ℕ} → byte_of k ∷ operands ≡ b ∷ s → (j : Kind) → b ≡ byte_of j → j ≡ k
  own k e j f = byte_own j k (sym (head_same e ∙ f))

  -- bytes that begin with another command
  other : (j k : Kind) → eqb (byte_of j) (byte_of k) ≡ false → {s : List ℕ} → byte_of k ∷ operands ≡ byte_of j ∷ s → ⊥
  other j k e s = eqb-false _ _ e (sym (head_same s))

  order_decided : (k : Kind) → Decides (OutOfGroupOrder c (byte_of k ∷ operands)) (late (record_of c) (order_of k))
  order_decided k = record {
    yes = λ e.
        let some = ltb-true _ _ (sym (late_counted (record_of c) (order_of k)) ∙ e) in
        record { byte = byte_of k; behind = operands; is = refl; too_late = kind_late c k some };
    no = λ e o.
        let j = late_kind c o.too_late in
        let some = subst (λ (i : Kind). 0 < count_behind (record_of c) (order_of i) kinds) (own k o.is j.0 j.1) j.2 in
        omega (arith, ltb-false 0 (count_behind (record_of c) (order_of k) kinds) (sym (late_counted (record_of c) (order_of k)) ∙ e), some);
  }

  many_decided : (k : Kind) → Decides (OneTooMany c (byte_of k ∷ operands)) (full (record_of c) k)
  many_decided k = record {
    yes = λ e. record { byte = byte_of k; behind = operands; is = refl; no_room = kind_full c k e };
    no = λ e o.
        let j = full_kind c o.no_room in
        true≢false (sym (subst (λ (i : Kind). full (record_of c) i ≡ true) (own k o.is j.0 j.1) j.2) ∙ e);
  }

  short_decided : (k : Kind) → Decides (CutShort (byte_of k ∷ operands)) (ltb (length operands) (operand_bytes k))
  short_decided k = record { yes = λ e. inside_operands (kind_line k) refl (ltb-true _ _ e); no = λ e. whole (ltb-false _ _ e) }
    where
      whole : operand_bytes k ≤ length operands → ¬ CutShort (byte_of k ∷ operands)
      whole h (before_end z) = no_byte (sym z)
      whole h (inside_operands l e short) =
          let j = line_kind l in omega (arith, short, ap operand_bytes (own k e j.0 j.1), j.2, ap length (tail_same e))

  module _ (small : All IsByte operands) where
    -- the operands are the bytes of the element that they spell, and of no other
    written : (k : Kind) → operand_bytes k ≤ length operands
        → byte_of k ∷ operands ≡ byte_of k ∷ (operands_of k (element_at k operands) ++ drop (operand_bytes k) operands)
    written k long = ap (λ (t : List ℕ). byte_of k ∷ t) (sym (written_again k operands long small))

    spelt : (k : Kind) (x : Element k) (more : List ℕ) → byte_of k ∷ operands ≡ byte_of k ∷ (operands_of k x ++ more) → Sized k x → element_at k operands ≡ x
    spelt k x more e sized = ap (element_at k) (tail_same e) ∙ read_again k x more sized

    abbrev behind : Kind → List ℕ
    behind k = drop (operand_bytes k) operands

    abbrev zero_rule : RuleWords
    zero_rule = record { head = 0; positive = 0; negative = 0 }

    zero_decided : operand_bytes rule ≤ length operands
        → Decides (ZeroRule (byte_of rule ∷ operands)) (empty_rule (word_at 0 operands) (word_at WORD_BYTES operands) (word_at (2 * WORD_BYTES) operands))
    zero_decided long = decides_iff zeros words (decides_empty _ _ _)
      where
        Words : Type 0
        Words = ((word_at 0 operands ≡ 0) × (word_at WORD_BYTES operands ≡ 0)) × (word_at (2 * WORD_BYTES) operands ≡ 0)

        zeros : Words → ZeroRule (byte_of rule ∷ operands)
        zeros z =
            let x : element_at rule operands ≡ zero_rule = λ i. record { head = z.0.0 i; positive = z.0.1 i; negative = z.1 i } in
            record { more = behind rule; is = written rule long ∙ ap (λ (y : RuleWords). byte_of rule ∷ (operands_of rule y ++ behind rule)) x }

        words : ZeroRule (byte_of rule ∷ operands) → Words
        words z =
            let x : element_at rule operands ≡ zero_rule = spelt rule zero_rule z.more z.is (omega arith, (omega arith, omega arith)) in
            ((ap (λ (y : RuleWords). y.head) x, ap (λ (y : RuleWords). y.positive) x), ap (λ (y : RuleWords). y.negative) x)

    contradictory_decided : operand_bytes rule ≤ length operands
        → Decides (ContradictoryRule (byte_of rule ∷ operands)) (contradictory (word_at WORD_BYTES operands) (word_at (2 * WORD_BYTES) operands))
    contradictory_decided long = decides_iff shares share (decides_contradictory _ _)
      where
        shares : ¬ Apart (word_at WORD_BYTES operands) (word_at (2 * WORD_BYTES) operands) → ContradictoryRule (byte_of rule ∷ operands)
        shares n =
            let i = shared_atom _ _ n in
            record {
              words = element_at rule operands;
              more = behind rule;
              is = written rule long;
              head_fits = word_fits operands 0 (omega arith) small;
              positive_fits = word_fits operands WORD_BYTES (omega arith) small;
              negative_fits = word_fits operands (2 * WORD_BYTES) (omega arith) small;
              atom = i.0;
              wanted_up = i.1;
              wanted_dropped = i.2;
            }

        share : ContradictoryRule (byte_of rule ∷ operands) → ¬ Apart (word_at WORD_BYTES operands) (word_at (2 * WORD_BYTES) operands)
        share r apart =
            let x : element_at rule operands ≡ r.words =
            spelt rule r.words r.more r.is (r.head_fits, (r.positive_fits, r.negative_fits)) in
            let a : Apart r.words.positive r.words.negative = subst (λ (y : RuleWords). Apart y.positive y.negative) x apart in
            a.none r.atom r.wanted_up r.wanted_dropped

    table_decided : operand_bytes table ≤ length operands
        → Decides (WrongTable (byte_of table ∷ operands)) (bad_table (word_at 0 operands) (word_at WORD_BYTES operands))
    table_decided long = decides_iff wrong none (decides_bad_table (element_at table operands))
      where
        wrong : NoTable (element_at table operands) → WrongTable (byte_of table ∷ operands)
        wrong n =
            record {
              words = element_at table operands;
              more = behind table;
              is = written table long;
              inputs_fit = word_fits operands 0 (omega arith) small;
              truth_fits = word_fits operands WORD_BYTES (omega arith) small;
              wrong = n;
            }

        none : WrongTable (byte_of table ∷ operands) → NoTable (element_at table operands)
        none w = subst NoTable (sym (spelt table w.words w.more w.is (w.inputs_fit, w.truth_fits))) w.wrong

    use_decided : operand_bytes usage ≤ length operands
        → Decides (WrongUse c (byte_of usage ∷ operands)) (bad_use (record_of c) (get_or operands 0 0) (get_or operands 1 0) (get_or operands 2 0))
    use_decided long =
        decides_iff (λ w. record { three = element_at usage operands; more = behind usage; is = written usage long; wrong = w })
        (λ w. subst (NoNewUse c) (sym (spelt usage w.three w.more w.is tt)) w.wrong) (decides_bad_use c few (element_at usage operands))

    absent_decided : operand_bytes unit ≤ length operands
        → Decides (NamesAbsentRule c (byte_of unit ∷ operands)) (absent_rule (record_of c) (word_at 0 operands))
    unfolding absent_rule record_of
    absent_decided long = decides_iff names word (decides_le _ _)
      where
        names : 2 ^ length c.rules ≤ word_at 0 operands → NamesAbsentRule c (byte_of unit ∷ operands)
        names h =
            let i = atom_from (length c.rules) (word_at 0 operands) h in
            record {
              word = word_at 0 operands;
              more = behind unit;
              is = written unit long;
              fits = word_fits operands 0 (omega arith) small;
              named = i.0;
              names = i.1;
              absent = i.2;
            }

        word : NamesAbsentRule c (byte_of unit ∷ operands) → 2 ^ length c.rules ≤ word_at 0 operands
        word a = rw (spelt unit a.word a.more a.is a.fits) (above (dec_lt a.word (2 ^ length c.rules)))
          where
            above : Dec (a.word < 2 ^ length c.rules) → 2 ^ length c.rules ≤ a.word
            above (yes l) = absurd (omega (arith, a.absent, has_lt a.word (length c.rules) l a.names))
            above (no l) = omega arith

    edge_decided : operand_bytes edge ≤ length operands
        → Decides (WrongEdge c (byte_of edge ∷ operands)) (bad_edge (record_of c) (get_or operands 0 0) (get_or operands 1 0))
    edge_decided long =
        decides_iff (λ w. record { pair = element_at edge operands; more = behind edge; is = written edge long; wrong = w })
        (λ w. subst (NoNewEdge c) (sym (spelt edge w.pair w.more w.is tt)) w.wrong) (decides_bad c few (element_at edge operands))

    sizes_decided : Decides (Miscounted c (byte_of end ∷ operands)) (miscounted (record_of c))
    sizes_decided = decides_iff wrong right (decides_miscounted c few)
      where
        wrong : ¬ CountRight c → Miscounted c (byte_of end ∷ operands)
        wrong n =
            let s = some_wrong c few n in
            record { more = operands; is = refl; three = s.0; declared = s.1; differs = s.2 }

        right : Miscounted c (byte_of end ∷ operands) → ¬ CountRight c
        right m a = none_wrong c a m.three m.declared m.differs

    end_decided : Decides (BytesAfterEnd (byte_of end ∷ operands)) (ltb 0 (length operands))
    end_decided = go operands
      where
        go : (s : List ℕ) → Decides (BytesAfterEnd (byte_of end ∷ s)) (ltb 0 (length s))
        go [] = record { yes = λ e. absurd (true≢false (sym e)); no = λ e b. no_byte (tail_same b.is) }
        go (b ∷ s) = record { yes = λ e. record { first = b; more = s; is = refl }; no = λ e. absurd (omega (arith, ltb-false 0 (suc (length s)) e)) }

    -- ---- all rows

    -- rows 3, 4, 5 and 2, and behind them the rows that go by operands
    kind_rows_lem : (at : ℕ) (k : Kind) {ts : List FaultRow} → (operand_bytes k ≤ length operands → Agree (operand_rows (record_of c) at k operands) ts)
        → Agree (rows (record_of c) at k operands)
        (fault_row 3 (UnknownByte (byte_of k ∷ operands)) at
        ∷ fault_row 4 (OutOfGroupOrder c (byte_of k ∷ operands)) at
        ∷ fault_row 5 (OneTooMany c (byte_of k ∷ operands)) at
        ∷ fault_row 2 (CutShort (byte_of k ∷ operands)) at
        ∷ ts)
    kind_rows_lem at k below =
        skips (known k)
        (meets (meet refl refl (order_decided k))
        (λ e. meets (meet refl refl (many_decided k)) (λ f. meets (meet refl refl (short_decided k)) (λ g. below (ltb-false _ _ g)))))

    -- the rows that go by the operands of a command of kind j, at a command of kind k
    abbrev own_rows : ℕ → Kind → Kind → List FaultRow
    own_rows at k (single s) = []
    own_rows at k table = fault_row 18 (WrongTable (byte_of k ∷ operands)) at ∷ []
    own_rows at k rule = fault_row 6 (ZeroRule (byte_of k ∷ operands)) at ∷ fault_row 21 (ContradictoryRule (byte_of k ∷ operands)) at ∷ []
    own_rows at k usage = fault_row 19 (WrongUse c (byte_of k ∷ operands)) at ∷ []
    own_rows at k unit = fault_row 7 (NamesAbsentRule c (byte_of k ∷ operands)) at ∷ []
    own_rows at k edge = fault_row 8 (WrongEdge c (byte_of k ∷ operands)) at ∷ []
    own_rows at k end = fault_row 23 (Miscounted c (byte_of k ∷ operands)) 0 ∷ fault_row 9 (BytesAfterEnd (byte_of k ∷ operands)) (suc at) ∷ []

    -- those of another kind do not fit
    other_skipped : (at : ℕ) (k j : Kind) → eqb (byte_of j) (byte_of k) ≡ false → {rs : List Row} {ts : List FaultRow}
        → Agree rs ts → Agree rs (own_rows at k j ++ ts)
    other_skipped at k (single s) e a = a
    other_skipped at k table e a = skips (λ (w : WrongTable (byte_of k ∷ operands)). other table k e w.is) a
    other_skipped at k rule e a =
        skips (λ (z : ZeroRule (byte_of k ∷ operands)). other rule k e z.is)
        (skips (λ (r : ContradictoryRule (byte_of k ∷ operands)). other rule k e r.is) a)
    other_skipped at k usage e a = skips (λ (w : WrongUse c (byte_of k ∷ operands)). other usage k e w.is) a
    other_skipped at k unit e a = skips (λ (n : NamesAbsentRule c (byte_of k ∷ operands)). other unit k e n.is) a
    other_skipped at k edge e a = skips (λ (w : WrongEdge c (byte_of k ∷ operands)). other edge k e w.is) a
    other_skipped at k end e a =
        skips (λ (m : Miscounted c (byte_of k ∷ operands)). other end k e m.is)
        (skips (λ (b : BytesAfterEnd (byte_of k ∷ operands)). other end k e b.is) a)

    -- those of its own kind are decided
    own_decided : (at : ℕ) (k : Kind) → operand_bytes k ≤ length operands → {ts : List FaultRow}
        → Agree [] ts → Agree (operand_rows (record_of c) at k operands) (own_rows at k k ++ ts)
    own_decided at (single s) long a = a
    own_decided at table long a = meets (meet refl refl (table_decided long)) (λ e. a)
    own_decided at rule long a =
        meets (meet refl refl (zero_decided long)) (λ e. meets (meet refl refl (contradictory_decided long)) (λ f. a))
    own_decided at usage long a = meets (meet refl refl (use_decided long)) (λ e. a)
    own_decided at unit long a = meets (meet refl refl (absent_decided long)) (λ e. a)
    own_decided at edge long a = meets (meet refl refl (edge_decided long)) (λ e. a)
    own_decided at end long a = meets (meet refl refl sizes_decided) (λ e. meets (meet refl (add-one at) end_decided) (λ f. a))

    -- the rows of a list of kinds, in which k stands once
    abbrev rows_of : ℕ → Kind → List Kind → List FaultRow
    rows_of at k [] = []
    rows_of at k (j ∷ js) = own_rows at k j ++ rows_of at k js

    abbrev lacks : Kind → List Kind → Bool
    lacks k [] = true
    lacks k (j ∷ js) = elim (eqb (byte_of j) (byte_of k)) [ true ↦ false | false ↦ lacks k js ]

    abbrev stands_once : Kind → List Kind → Bool
    stands_once k [] = false
    stands_once k (j ∷ js) = elim (eqb (byte_of j) (byte_of k)) [ true ↦ lacks k js | false ↦ stands_once k js ]

    module _ (at : ℕ) (k : Kind) (long : operand_bytes k ≤ length operands) where
      none_own : (js : List Kind) → lacks k js ≡ true → Agree [] (rows_of at k js)
      none_own [] h = done
      none_own (j ∷ js) h = go (eqb (byte_of j) (byte_of k)) refl (none_own js)
        where
          go : (b : Bool) → eqb (byte_of j) (byte_of k) ≡ b → (lacks k js ≡ true → Agree [] (rows_of at k js)) → Agree [] (rows_of at k (j ∷ js))
          go true e rec = absurd (true≢false (sym (rw (e, lacks) at h)))
          go false e rec = other_skipped at k j e (rec (rw (e, lacks) at h))

      own_once : (js : List Kind) → stands_once k js ≡ true → Agree (operand_rows (record_of c) at k operands) (rows_of at k js)
      own_once [] h = absurd (true≢false (sym h))
      own_once (j ∷ js) h = go (eqb (byte_of j) (byte_of k)) refl (own_once js)
        where
          go : (b : Bool) → eqb (byte_of j) (byte_of k) ≡ b → (stands_once k js ≡ true → Agree (operand_rows (record_of c) at k operands) (rows_of at k js))
              → Agree (operand_rows (record_of c) at k operands) (rows_of at k (j ∷ js))
          go true e rec =
              subst (λ (i : Kind). Agree (operand_rows (record_of c) at k operands) (own_rows at k i ++ rows_of at k js))
              (sym (byte_own j k (eqb-true _ _ e))) (own_decided at k long (none_own js (rw (e, stands_once) at h)))
          go false e rec = other_skipped at k j e (rec (rw (e, stands_once) at h))

    -- the kinds in the order of their rows
    abbrev by_rows : List Kind
    by_rows = rule ∷ table ∷ usage ∷ unit ∷ edge ∷ end ∷ single sizes ∷ single given ∷ single show ∷ []

    agree : (at : ℕ) (k : Kind) → Agree (rows (record_of c) at k operands) (reading_place_of c at (byte_of k ∷ operands))
    agree at k = kind_rows_lem at k (λ long. own_once at k long by_rows (each_kind (λ j. stands_once j by_rows) refl k))

-- ---- the command at the front of s

-- either no row fits it, or its fault is that of the first row that does
data Judged (c : Contents) (at : ℕ) (s : List ℕ) : Type 0 where
  passes : (k : Kind) (operands : List ℕ) → command_at (record_of c) at s ≡ carrying k operands
      → ((n r : ℕ) → ¬ FirstFit (reading_place_of c at s) n r) → Judged c at s
  stops : (f : Fault) → command_at (record_of c) at s ≡ Faulty f → FirstFit (reading_place_of c at s) (number f) (spot f) → Judged c at s

judged : (c : Contents) → Few c → (at : ℕ) (s : List ℕ) → All IsByte s → Judged c at s
unfolding command_at of_kind
judged c few at [] small =
    stops (Truncated at) refl
    (inr (λ u. no_byte u.is, inr (λ o. no_byte o.is, inr (λ o. no_byte o.is, inl (before_end refl, (refl, refl))))))
judged c few at (b ∷ operands) small = go (kind_of b) refl
  where
    none_named : kind_of b ≡ none → (operands : ℕ) → ¬ Line b operands
    none_named e n l =
        let j = line_kind l in
        let z : none ≡ some j.0 = sym e ∙ ap kind_of j.1 ∙ kind_of_byte j.0 in
        let y : ◌≡◌ {A = ℕ} 0 1 = cc in
        omega arith

    of_kind_lem : (k : Kind) → kind_of b ≡ some k
        → Passed (rows (record_of c) at k operands) ⊎ FirstIs (rows (record_of c) at k operands) (reading_place_of c at (b ∷ operands)) (carrying k operands)
        → Agree (rows (record_of c) at k operands) (reading_place_of c at (b ∷ operands)) → Judged c at (b ∷ operands)
    of_kind_lem k e (inl h) a =
        passes k operands (known_command (record_of c) at b operands k e ∙ none_fits (rows (record_of c) at k operands) (carrying k operands) h)
        (none_first a h)
    of_kind_lem k e (inr f) a = stops f.fault (known_command (record_of c) at b operands k e ∙ f.is) f.first

    go : (o : Option Kind) → kind_of b ≡ o → Judged c at (b ∷ operands)
    go none e =
        stops (UnknownCommand at) (unknown_command (record_of c) at b operands e)
        (inl (record { byte = b; behind = operands; is = refl; names_none = none_named e }, (refl, refl)))
    go (some k) e =
        let a : Agree (rows (record_of c) at k operands) (reading_place_of c at (b ∷ operands)) =
        subst (λ (x : ℕ). Agree (rows (record_of c) at k operands) (reading_place_of c at (x ∷ operands))) (sym (kind_byte b k e))
        (agree c few operands small.1 at k) in
        of_kind_lem k e (same_first (carrying k operands) a) a

module _ (c : Contents) (few : Few c) (at : ℕ) (s : List ℕ) (small : All IsByte s) where
  -- a command that is a fault has that of the first row that fits
  pub fault_is_first : (f : Fault) → command_at (record_of c) at s ≡ Faulty f → FirstFit (reading_place_of c at s) (number f) (spot f)
  fault_is_first f e = go (judged c few at s small)
    where
      go : Judged c at s → FirstFit (reading_place_of c at s) (number f) (spot f)
      go (passes k operands is none-fit) = absurd (not_faulty k operands f (sym is ∙ e))
      go (stops g is first) =
          let same : Faulty g ≡ Faulty f = sym is ∙ e in
          let h : g ≡ f = cc in
          subst (λ (x : Fault). FirstFit (reading_place_of c at s) (number x) (spot x)) h first

  -- and where a row fits the command is a fault
  pub first_is_fault : (n r : ℕ) → FirstFit (reading_place_of c at s) n r
      → (f : Fault) × (command_at (record_of c) at s ≡ Faulty f) × (number f ≡ n) × (spot f ≡ r)
  first_is_fault n r first = go (judged c few at s small)
    where
      go : Judged c at s → (f : Fault) × (command_at (record_of c) at s ≡ Faulty f) × (number f ≡ n) × (spot f ≡ r)
      go (passes k operands is none-fit) = absurd (none-fit n r first)
      go (stops f is own_IsFirst) =
          let same = first_one (reading_place_of c at s) (number f) n (spot f) r own_IsFirst first in
          (f, is, same.0, same.1)
