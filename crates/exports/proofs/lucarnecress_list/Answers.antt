-- Outcome, counts and table are those that `list_positions` promises.
use Rattle.exports.proofs.Prelude.{ap, ◌∙◌, all_bytes, outcome_code}
use Rattle.exports.proofs.Face.{listed_code, refused_code_lem}
use Rattle.exports.proofs.lucarnecress_list.Goals as goal

pub returns : goal.returns
returns c =
    let small = all_bytes c.args.plan.now (λ i. (c.type_inv.plan i).fits) in
    record {
      code_is = c.outcome_code.ensures ∙ ap outcome_code c.list_positions-listing.ensures.answered.outcome_is;
      table_is = c.list_positions-listing.ensures.answered.table_is;
      counts_are = rw c.list_positions-listing.ensures.answered.counts_are at c.copy_counts.ensures;
      listing = c.list_positions-listing.result;
      listing_is = (c.outcome_code.ensures, c.copy_counts.ensures);
      promised = c.list_positions-listing.ensures.promised;
      listed = listed_code c.list_positions-listing.result c.outcome_code.ensures;
      refused = refused_code_lem c.list_positions-listing.result c.outcome_code.ensures small c.list_positions-listing.ensures.promised;
    }
