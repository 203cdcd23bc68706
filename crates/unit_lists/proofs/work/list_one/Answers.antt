-- The search from the start, and the store of what it found.
use Rattle.unit_lists.proofs.Prelude.{refl, ap, ◌∙◌, true≢false, false≢true, paste, needs, ◌*◌, LIST_WORDS}
use Rattle.searching.proofs.Gathered.{gathered_ordered}
use Rattle.unit_lists.proofs.RisingLists.{zeros_ordered}
use Rattle.unit_lists.proofs.work.list_one.Goals as goal

pub search-count-requires : goal.search-count-requires
search-count-requires c = search (zeros_ordered, needs)

pub returns-then-count-gt-LIST_WORDS : goal.returns-then-count-gt-LIST_WORDS
returns-then-count-gt-LIST_WORDS c =
    record {
      list = c.search-count.new.list;
      count = c.search-count.result;
      gathered = c.search-count.ensures;
      when_fits = λ e. absurd (false≢true e);
      when_long = λ e. (c.if-count-gt-LIST_WORDS.true, refl, refl);
    }

pub returns : goal.returns
returns c =
    record {
      list = c.search-count.new.list;
      count = c.search-count.result;
      gathered = c.search-count.ensures;
      when_fits = λ e. (
        c.if-count-gt-LIST_WORDS.false,
        c.store.ensures ∙ ap (paste c.args.table.now (LIST_WORDS * c.args.place) c.search-count.new.list)
            (gathered_ordered c.if-count-gt-LIST_WORDS.false c.search-count.ensures).long,
        refl,
      );
      when_long = λ e. absurd (true≢false e);
    }
