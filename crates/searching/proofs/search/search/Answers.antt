-- At first nothing is learnt, every entry may be joined, and every step is on the agenda. What is wanted with pilots, apart from these, is what is
-- wanted.
use Rattle.searching.proofs.Prelude.{refl, ◌^◌, ◌<◌, arith, ATOMS, remembers_empty, joinable_some, full_filtered}
use Rattle.searching.proofs.Face.{explored_narrowed, explored_gathered, entered_ready, explored_branch}
use Rattle.searching.proofs.PilotedSearches.{piloted_ready, piloted_search}
use Rattle.searching.proofs.search.search.Goals as goal

pub lay_out-desk-requires : goal.lay_out-desk-requires
lay_out-desk-requires c =
    let pre = c.requires.0 in
    rw c.with_inputs-piloted.ensures (pre.rules_lent, pre.joinable.heads_long, (joinable_some pre.near pre.joinable).few)

-- all that the search looks at is prepared
pub invariant_of-cx : goal.invariant_of-cx
invariant_of-cx c =
    let p = piloted_ready c.with_inputs-piloted.ensures c.all_of-all.ensures c.requires.0 c.lay_out-desk.ensures in
    record { numbered = omega arith; searchable = p.searchable; backed = p.backed; linked = ∣ p.linked ∣₁; within = p.within; long = p.long }

pub begin-f-requires : goal.begin-f-requires
begin-f-requires c =
    let all = piloted_ready c.with_inputs-piloted.ensures c.all_of-all.ensures c.requires.0 c.lay_out-desk.ensures in (
      remembers_empty c.empty_store-memory.ensures,
      full_filtered _ _ _ _ _ _ (joinable_some all.searchable.near all.searchable.joinable) c.full_filter-filter.ensures,
    )

pub enter-node-requires : goal.enter-node-requires
enter-node-requires c =
    rw c.root-start.ensures (c.begin-f.ensures.remembers, c.begin-f.ensures.filtered)

pub explore-requires : goal.explore-requires
explore-requires c =
    entered_ready c.root-start.ensures c.enter-node.ensures c.requires.1 (c.blank_memo-memo.ensures.memo _)

-- rule numbers and pilots are bits of words
pub returns : goal.returns
returns c =
    let fits : c.args.unit.rules < 2 ^ ATOMS = omega arith in
    let small : c.all_of-all.result < 2 ^ ATOMS = omega arith in
    let told = explored_branch c.root-start.ensures c.enter-node.ensures c.explore.ensures.explored in
    piloted_search c.with_inputs-piloted.ensures c.all_of-all.ensures c.requires.0 c.take_pilots-pilots.ensures.piloted
    c.take_pilots-pilots.ensures.down c.lay_out-desk.ensures fits small c.without.ensures refl c.without-2.ensures c.args.list.now 0
    (explored_gathered (λ M w. w.belongs.word) (explored_narrowed c.begin-f.ensures.narrows told))
