-- The first DECIDING_BYTES bytes decide what reading gives. The place of a command follows from how many commands of each kind the record
-- has, so every command that is read ends in time; and a command shows its fault within three bytes more, behind a SHOW within two. So each command
-- is the same with what lies behind cut off.
use Rattle.reading.proofs.Prelude.{◌≡◌, refl, ap, sym, ◌∙◌, subst, List, [], ◌∷◌, ◌++◌, flat_map, Bool, true, false, Option, some, none, ℕ, max, zero}
use Rattle.reading.proofs.Prelude.{suc, ◌+◌, ◌*◌, ◌-◌, ◌≤◌, ◌<◌, arith, dec_lt, ltb, length, take, drop, length-take, take-nil, take-take, get_or-take}
use Rattle.reading.proofs.Prelude.{lt-ltb, le-ltb, empty_plan, WORD_BYTES, spelled, word_at, MAX_TABLES, MAX_RULES, MAX_USES, MAX_UNITS, MAX_EDGES, Kind}
use Rattle.reading.proofs.Prelude.{single, sizes, given, show, table, rule, usage, unit, edge, end, kind_of, operand_bytes, carrying, Row, kind_rows}
use Rattle.reading.proofs.Prelude.{operand_rows, first_fit, of_kind, command_at, ended, step_of, walk, reading, accepted, refused, command_bytes}
use Rattle.reading.proofs.Prelude.{DECIDING_BYTES, Contents, commands, record_of, Plan, Truncated, ReadPlan, Command}
use Rattle.reading.proofs.Commands.{Passed, InPlace, room_left, passed_in_place, known_command, unknown_command, Leads, leads_step}
use Rattle.reading.proofs.Elements.{nothing, with, commands_longer, Held, held_none, within_most, record_none, more}
use Rattle.reading.proofs.Longest.{commands_long}
use Rattle.reading.proofs.RoundTrip.{end_step}
use Rattle.reading.proofs.Walk.{walk_on, walk_ended, walk_keeps}

-- ---- what a command looks at

-- how many bytes behind its own a command looks at: its operands, and END at whether there is one
abbrev looks_at_lem : Kind → ℕ
looks_at_lem k = max 1 (operand_bytes k)

short_kept : (n m : ℕ) (s : List ℕ) → n ≤ m → ltb (length (take m s)) n ≡ ltb (length s) n
short_kept n m s h = go (dec_lt (length s) n)
  where
    go : Dec (length s < n) → ltb (length (take m s)) n ≡ ltb (length s) n
    go (yes l) = lt-ltb (length (take m s)) n (omega (arith, length-take m s)) ∙ sym (lt-ltb (length s) n l)
    go (no k) = le-ltb (length (take m s)) n (omega (arith, length-take m s)) ∙ sym (le-ltb (length s) n (omega arith))

some_kept : (m : ℕ) (s : List ℕ) → 1 ≤ m → ltb 0 (length (take m s)) ≡ ltb 0 (length s)
some_kept zero s h = absurd (omega arith)
some_kept (suc m) [] h = refl
some_kept (suc m) (b ∷ s) h = lt-ltb 0 (suc (length (take m s))) (omega arith) ∙ sym (lt-ltb 0 (suc (length s)) (omega arith))

part_kept : (k at m : ℕ) (s : List ℕ) → at + k ≤ m → take k (drop at (take m s)) ≡ take k (drop at s)
part_kept k zero m s h = take-take k m s (omega arith)
part_kept k (suc at) zero s h = absurd (omega arith)
part_kept k (suc at) (suc m) [] h = refl
part_kept k (suc at) (suc m) (b ∷ s) h = part_kept k at m s (omega arith)

word_kept : (at m : ℕ) (s : List ℕ) → at + WORD_BYTES ≤ m → word_at at (take m s) ≡ word_at at s
unfolding word_at
word_kept at m s h = ap spelled (part_kept WORD_BYTES at m s h)

drop_taken : (k m : ℕ) (s : List ℕ) → drop k (take m s) ≡ take (m - k) (drop k s)
drop_taken zero m s = let e : m - 0 ≡ m = omega arith in rw e
drop_taken (suc k) zero s = let e : 0 - suc k ≡ 0 = omega arith in rw e
drop_taken (suc k) (suc m) [] = sym (take-nil (suc m - suc k))
drop_taken (suc k) (suc m) (b ∷ s) = let e : suc m - suc k ≡ m - k = omega arith in rw e (drop_taken k m s)

-- the rows and the command behind them are the same, unless a row of the kind alone fits
rows_kept : (rs others rest : List Row) (x y : Command) → (Passed rs → first_fit others x ≡ first_fit rest y)
    → first_fit (rs ++ others) x ≡ first_fit (rs ++ rest) y
rows_kept [] others rest x y h = h tt
rows_kept (r ∷ rs) others rest x y h = go r.fits refl (rows_kept rs others rest x y)
  where
    go : (b : Bool) → r.fits ≡ b → ((Passed rs → first_fit others x ≡ first_fit rest y) → first_fit (rs ++ others) x ≡ first_fit (rs ++ rest) y)
        → first_fit ((r ∷ rs) ++ others) x ≡ first_fit ((r ∷ rs) ++ rest) y
    go true t rec = rw t
    go false t rec = rw t (rec (λ p. h (t, p)))

module _ (p : Plan) (at m : ℕ) (s : List ℕ) where
  operands_kept : (k : Kind) → looks_at_lem k ≤ m
      → first_fit (operand_rows p at k (take m s)) (carrying k (take m s)) ≡ first_fit (operand_rows p at k s) (carrying k s)
  unfolding carrying
  operands_kept (single sizes) h = rw (get_or-take m s 0 0 (omega arith), get_or-take m s 1 0 (omega arith), get_or-take m s 2 0 (omega arith))
  operands_kept (single given) h = rw (word_kept 0 m s (omega arith))
  operands_kept table h = rw (word_kept 0 m s (omega arith), word_kept WORD_BYTES m s (omega arith))
  operands_kept rule h = rw (word_kept 0 m s (omega arith), word_kept WORD_BYTES m s (omega arith), word_kept (2 * WORD_BYTES) m s (omega arith))
  operands_kept usage h = rw (get_or-take m s 0 0 (omega arith), get_or-take m s 1 0 (omega arith), get_or-take m s 2 0 (omega arith))
  operands_kept unit h = rw (word_kept 0 m s (omega arith))
  operands_kept edge h = rw (get_or-take m s 0 0 (omega arith), get_or-take m s 1 0 (omega arith))
  operands_kept (single show) h = rw (word_kept 0 m s (omega arith))
  operands_kept end h = rw (some_kept m s h)

  kind_kept : (k : Kind) → (InPlace p k → looks_at_lem k ≤ m) → operand_bytes k ≤ looks_at_lem k → of_kind p at k (take m s) ≡ of_kind p at k s
  unfolding of_kind
  kind_kept k h l =
      let short : List ℕ → Row = λ t. record { fits = ltb (length t) (operand_bytes k); fault = Truncated at } in
      let x = carrying k (take m s) in
      rows_kept (kind_rows p at k) (short (take m s) ∷ operand_rows p at k (take m s)) (short s ∷ operand_rows p at k s) x (carrying k s)
      (λ r.
      let near = h (passed_in_place p at k r) in
      rw (short_kept (operand_bytes k) m s (omega arith))
      (rows_kept (short s ∷ []) (operand_rows p at k (take m s)) (operand_rows p at k s) x (carrying k s) (λ q. operands_kept k near)))

-- ---- how far reading has come

-- what lies behind the first n bytes is cut off; reading on from here gives what reading the cut bytes from the start gives
record Cut (n : ℕ) (result : ReadPlan) (p : Plan) (at : ℕ) (s : List ℕ) : Type 0 where
  contents : Contents
  held : Held contents
  record_is : p ≡ record_of contents
  placed : at ≡ length (commands contents)
  same : walk p at 0 (take (n - at) s) ≡ result

-- how many commands of each kind there are at most
record Counts (c : Contents) : Type 0 where
  counts : length (c.once sizes) ≤ 1
  givens : length (c.once given) ≤ 1
  tables : length c.tables ≤ MAX_TABLES
  rules : length c.rules ≤ MAX_RULES
  uses : length c.uses ≤ MAX_USES
  units : length c.units ≤ MAX_UNITS
  edges : length c.edges ≤ MAX_EDGES
  shows : length (c.once show) ≤ 1

counts : (c : Contents) → Held c → Counts c
counts c h =
    let m = within_most c h in
    record {
      counts = m (single sizes);
      givens = m (single given);
      tables = m table;
      rules = m rule;
      uses = m usage;
      units = m unit;
      edges = m edge;
      shows = m (single show);
    }

module _ (n : ℕ) (long : DECIDING_BYTES ≤ n) where
  -- what a command that is in place looks at is kept; behind all commands there may be, a second byte
  near : (c : Contents) → Held c → (k : Kind) → InPlace (record_of c) k → length (commands c) + suc (looks_at_lem k) ≤ n
  unfolding record_of
  near c h (single sizes) i = omega (arith, commands_long c, i.on_time)
  near c h (single given) i = omega (arith, commands_long c, i.on_time, counts c h)
  near c h table i = omega (arith, commands_long c, i.on_time, room_left table i, counts c h)
  near c h rule i = omega (arith, commands_long c, i.on_time, room_left rule i, counts c h)
  near c h usage i = omega (arith, commands_long c, i.on_time, room_left usage i, counts c h)
  near c h unit i = omega (arith, commands_long c, i.on_time, room_left unit i, counts c h)
  near c h edge i = omega (arith, commands_long c, i.on_time, counts c h)
  near c h (single show) i = omega (arith, commands_long c, i.on_time, counts c h)
  near c h end i = omega (arith, commands_long c, counts c h)

  module _ (result : ReadPlan) (p : Plan) (at : ℕ) (s : List ℕ) (cut : Cut n result p at s) where
    near_by : (k : Kind) → InPlace p k → at + suc (looks_at_lem k) ≤ n
    near_by k i = rw cut.placed (near cut.contents cut.held k (rw cut.record_is at i))

    kept : command_at p at (take (n - at) s) ≡ command_at p at s
    kept = go (n - at) (omega (arith, near_by end (record { on_time = omega arith; room = refl }))) s
      where
        go : (m : ℕ) → m + at ≡ n → (t : List ℕ) → command_at p at (take m t) ≡ command_at p at t
        go m left [] = ap (command_at p at) (take-nil m)
        go zero left (b ∷ t) = absurd (omega (arith, near_by end (record { on_time = omega arith; room = refl })))
        go (suc m) left (b ∷ t) = by_kind (kind_of b) refl
          where
            by_kind : (x : Option Kind) → kind_of b ≡ x → command_at p at (b ∷ take m t) ≡ command_at p at (b ∷ t)
            by_kind none e = unknown_command p at b (take m t) e ∙ sym (unknown_command p at b t e)
            by_kind (some k) e =
                known_command p at b (take m t) k e ∙ kind_kept p at m t k (λ h. omega (arith, near_by k h)) (omega arith)
                ∙ sym (known_command p at b t k e)

    on : (q : Plan) (k : Kind) → Leads k p at s q → Cut n result q (at + command_bytes k) (drop (command_bytes k) s)
    on q k l =
        let c = cut.contents in
        let size = command_bytes k in
        let lead : Leads k (record_of c) at s q = subst (λ (z : Plan). Leads k z at s q) cut.record_is l in
        let m = more c k at s q cut.held lead in
        let step = ap (step_of p) kept ∙ leads_step p at s k q l in
        let less : n - at - size ≡ n - (at + size) = omega arith in
        let rest : drop size (take (n - at) s) ≡ take (n - (at + size)) (drop size s) =
        drop_taken size (n - at) s ∙ ap (λ (j : ℕ). take j (drop size s)) less in
        record {
          contents = with c k _;
          held = m.held;
          record_is = m.is;
          placed = ap (λ (j : ℕ). j + size) cut.placed ∙ sym (commands_longer c k _ l.more lead.read.in_place);
          same = ap (walk q (at + size) 0) (sym rest) ∙ sym (walk_on p at (take (n - at) s) k q step) ∙ cut.same;
        }

    ended_so : (x : ReadPlan) → step_of p (command_at p at s) ≡ ended x → result ≡ x
    ended_so x e = sym cut.same ∙ walk_ended p at (take (n - at) s) x (ap (step_of p) kept ∙ e)

-- reading keeps its whole result, outcome and record, where only the first n bytes are kept
pub reading_prefix : (n : ℕ) (bytes : List ℕ) → DECIDING_BYTES ≤ n → reading (take n bytes) ≡ reading bytes
unfolding reading commands flat_map
reading_prefix n bytes long =
    let result : ReadPlan = reading (take n bytes) in
    let none : n - 0 ≡ n = omega arith in
    walk_keeps (Cut n result) (λ x. result ≡ x) (λ p q at s k c l. on n long result p at s c q k l)
    (λ p at s c e right. ended_so n long result p at s c (accepted p) (rw e (end_step p at right)))
    (λ p at s f c e. ended_so n long result p at s c (refused f) (ap (step_of p) e)) empty_plan 0 bytes
    (record {
      contents = nothing;
      held = held_none;
      record_is = sym record_none;
      placed = refl;
      same = ap (λ (m : ℕ). walk empty_plan 0 0 (take m bytes)) none;
    })
