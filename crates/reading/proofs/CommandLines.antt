-- The command table in its two forms: the reader's, by kinds, and that of the fault rows, by bytes and lists.
use Rattle.reading.proofs.Prelude.{◌≡◌, refl, sym, true, true≢false, ℕ, ◌<◌, arith, leb-true, le-leb, Kind, single, sizes, given, show, table, rule}
use Rattle.reading.proofs.Prelude.{usage, unit, edge, end, byte_of, operand_bytes, order_of, kinds, full, Contents, record_of, Line, end_line, rule_line}
use Rattle.reading.proofs.Prelude.{unit_line, edge_line, given_line, table_line, use_line, count_line, show_line, TooLate, late_count, late_given}
use Rattle.reading.proofs.Prelude.{late_table, late_rule, late_use, late_unit, late_edge, second_show, NoRoom, seventeenth_table, sixty_fifth_rule}
use Rattle.reading.proofs.Prelude.{two_hundred_fifty_seventh_use, seventeenth_unit}
use Rattle.reading.proofs.CommandKinds.{count_behind}

-- ---- bytes and operands

pub kind_line : (k : Kind) → Line (byte_of k) (operand_bytes k)
kind_line (single sizes) = count_line
kind_line (single given) = given_line
kind_line table = table_line
kind_line rule = rule_line
kind_line usage = use_line
kind_line unit = unit_line
kind_line edge = edge_line
kind_line (single show) = show_line
kind_line end = end_line

pub line_kind : {byte operands : ℕ} → Line byte operands → (k : Kind) × (byte ≡ byte_of k) × (operands ≡ operand_bytes k)
line_kind count_line = (single sizes, refl, refl)
line_kind given_line = (single given, refl, refl)
line_kind table_line = (table, refl, refl)
line_kind rule_line = (rule, refl, refl)
line_kind use_line = (usage, refl, refl)
line_kind unit_line = (unit, refl, refl)
line_kind edge_line = (edge, refl, refl)
line_kind show_line = (single show, refl, refl)
line_kind end_line = (end, refl, refl)

module _ (c : Contents) where
  -- ---- the order of groups

  pub kind_late : (k : Kind) → 0 < count_behind (record_of c) (order_of k) kinds → TooLate c (byte_of k)
  unfolding record_of
  kind_late (single sizes) h = late_count (omega arith)
  kind_late (single given) h = late_given (omega arith)
  kind_late table h = late_table (omega arith)
  kind_late rule h = late_rule (omega arith)
  kind_late usage h = late_use (omega arith)
  kind_late unit h = late_unit (omega arith)
  kind_late edge h = late_edge (omega arith)
  kind_late (single show) h = second_show (omega arith)
  kind_late end h = absurd (omega arith)

  pub late_kind : {byte : ℕ} → TooLate c byte → (k : Kind) × (byte ≡ byte_of k) × (0 < count_behind (record_of c) (order_of k) kinds)
  unfolding record_of
  late_kind (late_count h) = (single sizes, refl, omega arith)
  late_kind (late_given h) = (single given, refl, omega arith)
  late_kind (late_table h) = (table, refl, omega arith)
  late_kind (late_rule h) = (rule, refl, omega arith)
  late_kind (late_use h) = (usage, refl, omega arith)
  late_kind (late_unit h) = (unit, refl, omega arith)
  late_kind (late_edge h) = (edge, refl, omega arith)
  late_kind (second_show h) = (single show, refl, omega arith)

  -- ---- column "most"

  pub kind_full : (k : Kind) → full (record_of c) k ≡ true → NoRoom c (byte_of k)
  unfolding record_of
  kind_full (single s) e = absurd (true≢false (sym e))
  kind_full table e = seventeenth_table (leb-true _ _ e)
  kind_full rule e = sixty_fifth_rule (leb-true _ _ e)
  kind_full usage e = two_hundred_fifty_seventh_use (leb-true _ _ e)
  kind_full unit e = seventeenth_unit (leb-true _ _ e)
  kind_full edge e = absurd (true≢false (sym e))
  kind_full end e = absurd (true≢false (sym e))

  pub full_kind : {byte : ℕ} → NoRoom c byte → (k : Kind) × (byte ≡ byte_of k) × (full (record_of c) k ≡ true)
  unfolding record_of
  full_kind (seventeenth_table h) = (table, refl, le-leb _ _ h)
  full_kind (sixty_fifth_rule h) = (rule, refl, le-leb _ _ h)
  full_kind (two_hundred_fifty_seventh_use h) = (usage, refl, le-leb _ _ h)
  full_kind (seventeenth_unit h) = (unit, refl, le-leb _ _ h)
