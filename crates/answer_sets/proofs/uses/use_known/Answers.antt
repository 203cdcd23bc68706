-- The rows that completions have, held against the truth word, by the sign.
use Rattle.answer_sets.proofs.Prelude.{◌≡◌, true, Says, half_decided, needs}
use Rattle.answer_sets.proofs.Face.{says_opposite, says_same, rows_some, table_says, said, wanted_true, wanted_false}
use Rattle.answer_sets.proofs.uses.use_known.Goals as goal

pub rows_known-said-requires : goal.rows_known-said-requires
rows_known-said-requires c = search (rows_some, needs)

-- what is known of the table
pub returns-then-i-lt-MAX_TABLES : goal.returns-then-i-lt-MAX_TABLES
returns-then-i-lt-MAX_TABLES c =
    let table = c.used_table-table.ensures.0 in
    let told : Says (λ N. said c.args.rules.now c.args.i N ≡ true) (half_decided c.args.up c.args.dropped) c.rows_known-said.result =
    table_says _ _ (rw (c.table_inputs.ensures, table) at c.agreeing_rows-rows.ensures)
    (rw (c.table_truth.ensures, table) at c.rows_known-said.ensures) in
    says_same _ _ (λ N. wanted_true _ _ N c.if-i-lt-MAX_TABLES.true) told

pub returns-else-i-lt-MAX_TABLES : goal.returns-else-i-lt-MAX_TABLES
returns-else-i-lt-MAX_TABLES c =
    let table = c.used_table-table.ensures.0 in
    let told : Says (λ N. said c.args.rules.now c.args.i N ≡ true) (half_decided c.args.up c.args.dropped) c.rows_known-said.result =
    table_says _ _ (rw (c.table_inputs.ensures, table) at c.agreeing_rows-rows.ensures)
    (rw (c.table_truth.ensures, table) at c.rows_known-said.ensures) in
    says_same _ _ (λ N. wanted_false _ _ N c.if-i-lt-MAX_TABLES.false) (says_opposite _ c.opposite.ensures told)
