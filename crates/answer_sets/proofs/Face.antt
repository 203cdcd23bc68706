-- The laws of this crate that the proofs of its functions name, each with its home.
pub use Rattle.answer_sets.proofs.Between.{between_clash, between_model, between_stuck, confines_branch, confines_more, lasts_trans}
pub use Rattle.answer_sets.proofs.Between.{lent_part, passed_confines, tested_passed, tries_no, tries_spent, tries_told, tries_unbounded, tries_yes}
pub use Rattle.answer_sets.proofs.Bodies.{said, table_first, table_second, used_inputs_read, wanted_false, wanted_true}
pub use Rattle.answer_sets.proofs.Candidates.{candidates_body, candidates_head, some_free}
pub use Rattle.answer_sets.proofs.Cases.{all_unless_found, kept_if_fails, kept_if_holds, model_judged, no_facts, no_model}
pub use Rattle.answer_sets.proofs.Cases.{met, met_judged, refuted_facts, refuted_model, refuted_smaller, unmet_facts, unmet_model}
pub use Rattle.answer_sets.proofs.Cases.{satisfies_fails, satisfies_holds}
pub use Rattle.answer_sets.proofs.JudgedSets.{kept_collected, satisfies_denied, satisfies_said, sifts_kept_if}
pub use Rattle.answer_sets.proofs.Lent.{lent_kept, numbered_cut}
pub use Rattle.answer_sets.proofs.Memos.{alike_memo, blank_memo, memo_none, memo_whole, memo_written, untouched_rule}
pub use Rattle.answer_sets.proofs.Parts.{UsesDone, body_of_words, rows_some, table_says, up_apart, uses_end, uses_fail, uses_lt, uses_next}
pub use Rattle.answer_sets.proofs.Parts.{uses_start, words_say, words_told}
pub use Rattle.answer_sets.proofs.RulePass.{at_most_said, head_met, held_known, holds_head, last_dropped, last_up, met_by_body, met_by_head}
pub use Rattle.answer_sets.proofs.RulePass.{rounds_narrow, sifted_met, sifted_more, sifted_on, sifted_turn, subset_left}
pub use Rattle.answer_sets.proofs.Truths.{rows_fail, rows_hold, rows_open, says_opposite, says_same, word_fails, word_holds, word_open}
