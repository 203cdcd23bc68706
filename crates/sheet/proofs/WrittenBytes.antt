-- Writing bytes into a sheet from a place on: one writing behind another is the writing of both, and a writing from 0 on that has room fills the sheet.
use Rattle.sheet.proofs.Prelude.{ℕ, suc, ◌+◌, ◌≤◌, ◌<◌, ◌≡◌, refl, sym, ◌∙◌, List, [], ◌∷◌, ◌++◌, add-zero, zero-add, add-suc, suc-add}
use Rattle.sheet.proofs.Prelude.{arith, le-leb, lt-leb, length, take, set, length-append, sets, sets-eq, Put, bytes_written}
use Rattle.sheet.proofs.Prelude.{filled, ap, drop, ◌-◌, take_all}
use Rattle.std.proofs.lemmas.Slice.{put_mid-paste}
use borrow.Rule.Slice.PartMut.{put_mid}
use Rattle.std.specs.Prelude.{Ok, Err}

sets_append : (a b s : List ℕ) (at : ℕ) → sets s at (a ++ b) ≡ sets (sets s at a) (at + length a) b
sets_append [] b s at = rw add-zero
sets_append (x ∷ a) b s at = sets_append a b (set s at x) (suc at) ∙ rw (suc-add, add-suc)

pub put_nothing : (at : ℕ) (s : List ℕ) → Put [] at s s at
put_nothing at s = record { behind = sym (add-zero at); holds = refl }

pub put_append : {a b : List ℕ} {at mid next : ℕ} {s t u : List ℕ} → Put a at s t mid → Put b mid t u next → Put (a ++ b) at s u next
put_append {a} {b} {at} {s = s} p q = record {
  behind = let e = length-append a b in omega arith;
  holds = q.holds ∙ rw (p.holds, p.behind) (sym (sets_append a b s at));
}

-- a part of the sheet is written over with the bytes
pub put_over : {bytes part s : List ℕ} {at : ℕ} → at + length bytes ≤ length s → part ≡ bytes
    → Put bytes at s (put_mid at (at + length bytes - at) s part) (at + length bytes)
put_over {bytes} {part} {s} {at} l e = record {
  behind = refl;
  holds =
      put_mid-paste at (at + length bytes - at) s part bytes (length bytes) e (omega arith) refl
      ∙ ap (λ (b : List ℕ). take at s ++ b ++ drop (at + length bytes) s) whole
      ∙ sym (sets-eq bytes s at l);
}
  where
    whole : take (length bytes) bytes ≡ bytes
    whole = take_all (length bytes) bytes (omega arith)

-- all the bytes are written, from 0 on
pub put_fills : {bytes s t : List ℕ} {next : ℕ} → length bytes ≤ length s → Put bytes 0 s t next
    → (Ok next ≡ bytes_written bytes s) × (t ≡ filled bytes s)
unfolding bytes_written filled
put_fills {bytes} {s} h p =
    rw (p.behind, p.holds, zero-add, bytes_written, filled, le-leb (length bytes) (length s) h)
    (refl, sets-eq bytes s 0 (rw zero-add h) ∙ rw zero-add)

-- the sheet has no room for the bytes
pub too_short_keeps : (bytes s : List ℕ) → length s < length bytes → (Err (record {}) ≡ bytes_written bytes s) × (s ≡ filled bytes s)
unfolding bytes_written filled
too_short_keeps bytes s h = rw (bytes_written, filled, lt-leb (length bytes) (length s) h) (refl, refl)
