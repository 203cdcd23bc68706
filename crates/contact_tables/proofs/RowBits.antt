-- The bits of a row, and that what a table says depends on its inputs alone.
use Rattle.contact_tables.proofs.Prelude.{◌≡◌, refl, subst, ◌↔◌, ℕ, ◌<◌, ATOMS, Has, ◌∩◌, atom, below, union_in, union_has, union_at, has_cut, cut_left}
use Rattle.contact_tables.proofs.Prelude.{cut_right, has_atom, atom_only, has_below, below_lt, lt_of_has, MAX_INPUTS, place, row, table_answer, ROWS}

-- an input that is up and has place k
pub record UpAt (inputs M k : ℕ) : Type 0 where
  pub at : ℕ
  pub at_lt : at < ATOMS
  pub input : Has inputs at
  pub is_up : Has M at
  pub placed : place inputs at ≡ k

-- the row's bits are the places of the inputs that are up
pub row_bit : (inputs M k : ℕ) → Has (row inputs M) k ↔ ((k < MAX_INPUTS) × UpAt inputs M k)
unfolding row
row_bit inputs M k = (there, back)
  where
    bits : ℕ
    bits = union_in ATOMS (inputs ∩ M) (λ a. atom (place inputs a))

    there : Has (bits ∩ below MAX_INPUTS) k → (k < MAX_INPUTS) × UpAt inputs M k
    there h =
        let u = union_at ATOMS (inputs ∩ M) (λ a. atom (place inputs a)) k (cut_left bits (below MAX_INPUTS) h) in (
          below_lt MAX_INPUTS (cut_right bits (below MAX_INPUTS) h),
          record {
            at = u.0;
            at_lt = u.1;
            input = cut_left inputs M u.2;
            is_up = cut_right inputs M u.2;
            placed = atom_only (place inputs u.0) u.3;
          },
        )

    back : (k < MAX_INPUTS) × UpAt inputs M k → Has (bits ∩ below MAX_INPUTS) k
    back (l, u) =
        has_cut bits (below MAX_INPUTS)
        (union_has ATOMS (inputs ∩ M) (λ a. atom (place inputs a)) u.at k u.at_lt (has_cut inputs M u.input u.is_up)
        (subst (λ (p : ℕ). Has (atom (place inputs u.at)) p) u.placed (has_atom (place inputs u.at))))
        (has_below MAX_INPUTS k l)

pub row_lt : (inputs M : ℕ) → row inputs M < ROWS
row_lt inputs M = lt_of_has (row inputs M) MAX_INPUTS (λ k h. ((row_bit inputs M k).0 h).0)

-- two positions that agree on the inputs have the same row
pub row_same : (inputs M N : ℕ) → inputs ∩ M ≡ inputs ∩ N → row inputs M ≡ row inputs N
unfolding row
row_same inputs M N e = rw e refl

pub answer_same : (inputs truth M N : ℕ) → inputs ∩ M ≡ inputs ∩ N → table_answer inputs truth M ≡ table_answer inputs truth N
unfolding table_answer
answer_same inputs truth M N e = rw (row_same inputs M N e) refl
