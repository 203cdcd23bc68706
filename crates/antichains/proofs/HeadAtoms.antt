-- The word of head atoms has just the atoms that are in some head, and what a list's members have beside them is the given atoms.
use Rattle.antichains.proofs.Prelude.{◌≡◌, ◌↔◌, ◌⊎◌, inl, inr, ℕ, ◌<◌, Has, ◌∖◌, below, ext, has_below, has_without, without_left, without_right}
use Rattle.antichains.proofs.Prelude.{Units, Passes, own, Listed, with_last, head_atoms_of, FewHeads}
use Rattle.atoms.proofs.Bounded.{union_has, union_at}
use Rattle.dependency_graph.proofs.Heads.{own_at}
use Rattle.dependency_graph.proofs.Under.{Under, heads_source, under_unit}
use Rattle.splitting.proofs.Form.{Member, listed_member}

-- some rule has the atom in its head
abbrev pub InHead : Units → ℕ → Type 0
InHead S a = (r : ℕ) × (r < S.rules) × Has (S.program.head r) a

pub head_atoms_lem : (S : Units) (a : ℕ) → Has (head_atoms_of S) a ↔ InHead S a
unfolding head_atoms_of
head_atoms_lem S a = (
  λ h. let t = union_at S.rules (below S.rules) (λ r. S.program.head r) a h in (t.0, t.1, t.3),
  λ t. union_has S.rules (below S.rules) (λ r. S.program.head r) t.0 a t.1 (has_below S.rules t.0 t.1) t.2,
)

-- the one more unit has no rules
pub few_with_last : (n : ℕ) (S : Units) → FewHeads n S → FewHeads n (with_last S)
unfolding head_atoms_of with_last
few_with_last n S few = record { count = few.count }

module _ (S : Units) (pass : Passes S) where
  -- the atoms of a member that are in no head are the given ones
  pub outside_heads : (u M : ℕ) → u < S.units → Listed S u M → M ∖ head_atoms_of S ≡ S.given
  outside_heads u M l h = ext (M ∖ head_atoms_of S) S.given into back
    where
      m : Member S u M
      m = (listed_member S pass pass.given_free u l M).0 h

      source : (a : ℕ) → ¬ Has (head_atoms_of S) a → Has S.given a ⊎ ((w : ℕ) × Under S u w × Has (own S w) a) → Has S.given a
      source a n (inl g) = g
      source a n (inr t) =
          let r = own_at S t.0 a (under_unit S l t.1) t.2 in
          absurd (n ((head_atoms_lem S a).1 (r.0, r.1.is_rule, r.2)))

      into : (a : ℕ) → Has (M ∖ head_atoms_of S) a → Has S.given a
      into a p =
          source a (without_right M (head_atoms_of S) p) (heads_source S u a l (m.within.each a (without_left M (head_atoms_of S) p)))

      back : (a : ℕ) → Has S.given a → Has (M ∖ head_atoms_of S) a
      back a g =
          has_without M (head_atoms_of S) (m.given_up.each a g)
          (λ k. let t = (head_atoms_lem S a).0 k in pass.given_free.free t.0 a t.1 t.2 g)
