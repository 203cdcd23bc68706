-- What the proofs of this crate name of the kit, of the crates below and of its own definitions, each with its home.
pub use Rattle.atoms.proofs.Kit.{Bool, List, get_or-append, ◌%◌, ◌*◌, ◌++◌, ◌+◌, ◌-◌, ◌<◌, ◌∙◌, ◌≡◌, ◌≤◌, ◌⊎◌, ap, arith, drop, drop_at, drop_put, false}
pub use Rattle.atoms.proofs.Kit.{false≢true, get_or, get_or-drop, get_or-replicate, get_or-set_other, get_or-set_same, get_or-take, inl, inr, le-ltb, length}
pub use Rattle.atoms.proofs.Kit.{length-replicate, length-set, length-take-le, lt-ltb, ltb, mid_len, mid_of, needs, not, not-false, not-true, post_of}
pub use Rattle.atoms.proofs.Kit.{put_mid, refl, replicate, same_len_mid, set, subst, sym, take, take_at, true, true≢false, ℕ, ℕ_discrete}
pub use Rattle.atoms.proofs.Sets.{apart_of_cut, atom_only, decides_apart, has_cut, has_dec, has_left, has_none, has_right, has_without, shared_atom}
pub use Rattle.atoms.proofs.Sets.{some_atom, without_left, without_right}
pub use Rattle.atoms.proofs.Tests.{decides_equal, decides_iff, not_both}
pub use Rattle.atoms.specs.Bounded.{Decides}
pub use Rattle.atoms.specs.Word.{Apart, AtMostOne, Has, ◌∖◌, ◌∩◌, ◌∪◌, ◌⊆◌, apart, atom}
pub use Rattle.learning.specs.Nogood.{Avoids, Nogood, Resolves, resolvent}
pub use Rattle.learning.specs.Reason.{Explains, Heeds, Leads, LearntOnce, Lifted, Remembers, Tells, WorthLearning, beyond_of, replaced}
pub use Rattle.learning.specs.Store.{AvoidsAll, Empty, Keeps, Learnt, MEMORY_WORDS, News, NextNews, PAIRS, PLACE, PairWritten, RING, SCORES}
pub use Rattle.learning.specs.Store.{SCORE_PLACES, STEPS, SamePairs, learnt_in, learnt_pairs, missing, pair_at, with_pair}
unfoldable pub use Rattle.learning.specs.Store.{next_place}
pub use Rattle.states.proofs.Narrows.{narrows_for, narrows_refl, narrows_when, overlap_none}
pub use Rattle.states.proofs.Within.{completes_within}
pub use Rattle.states.specs.Narrowing.{Narrows, OneGoes, Overlaps, SomeDown, SomeUp, Within}
pub use Rattle.states.specs.State.{Completes}
pub use Rattle.states.specs.declared.state.State.{State}
