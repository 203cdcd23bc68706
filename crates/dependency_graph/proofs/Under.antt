-- The head atoms of a unit by the units under it: the unit itself and those that it reaches. So the words of head atoms have just
-- the atoms of document 01's H(u), and those of its inputs.
use Rattle.dependency_graph.proofs.Prelude.{◌⊎◌, inl, inr, ℕ, ◌<◌, Has, ◌∩◌, Collects, collects_has, collects_cut, Units, Edge, Path, one, more}
use Rattle.dependency_graph.proofs.Prelude.{HeadAtom, given_head, own_head, reached_head, InputAtom, given_input, head_input, Cut, reach, own, heads}
use Rattle.dependency_graph.proofs.Prelude.{input_heads}
use Rattle.dependency_graph.proofs.Heads.{collects_heads, path_end, own_has, own_at, heads_given, heads_own, heads_edge, input_given, input_edge}
use Rattle.dependency_graph.proofs.Heads.{input_cases, reach_path}

-- w is u or a unit that u reaches
pub data Under (S : Units) : ℕ → ℕ → Type 0 where
  here : {u : ℕ} → Under S u u
  down : {u w : ℕ} → Path S u w → Under S u w

pub under_edge : (S : Units) {u v w : ℕ} → Edge S u v → Under S v w → Path S u w
under_edge S e here = one e
under_edge S e (down p) = more e p

pub under_unit : (S : Units) {u w : ℕ} → u < S.units → Under S u w → w < S.units
under_unit S l here = l
under_unit S l (down p) = path_end S p

pub heads_path : (S : Units) {u w : ℕ} (a : ℕ) → Path S u w → Has (heads S w) a → Has (heads S u) a
heads_path S a (one {u = u} {v = v} e) h = heads_edge S u v a e h
heads_path S a (more {u = u} {v = v} e p) h = heads_edge S u v a e (heads_path S a p h)

pub heads_under : (S : Units) {u w : ℕ} (a : ℕ) → Under S u w → Has (own S w) a → Has (heads S u) a
heads_under S {u} a here h = heads_own S u a h
heads_under S {u} {w} a (down p) h = heads_path S a p (heads_own S w a h)

-- "the head atoms of u and of all units it reaches", and the given ones
pub heads_source : (S : Units) (u a : ℕ) → u < S.units → Has (heads S u) a
    → Has S.given a ⊎ ((w : ℕ) × Under S u w × Has (own S w) a)
heads_source S u a l h = go ((collects_heads S u).each a h)
  where
    go : Has S.given a ⊎ (Has (own S u) a ⊎ ((w : ℕ) × (w < S.units) × Has (reach S u) w × Has (own S w) a))
        → Has S.given a ⊎ ((w : ℕ) × Under S u w × Has (own S w) a)
    go (inl g) = inl g
    go (inr (inl p)) = inr (u, here, p)
    go (inr (inr t)) = inr (t.0, down (reach_path S u t.0 l t.2), t.3)

-- ---- the words by meaning

-- the atoms of the word are those of H(u)
pub collects_head_atoms : (S : Units) (u : ℕ) → u < S.units → Collects (HeadAtom S u) (heads S u)
collects_head_atoms S u l = record { each = λ a h. from a (heads_source S u a l h); all = into }
  where
    from : (a : ℕ) → Has S.given a ⊎ ((w : ℕ) × Under S u w × Has (own S w) a) → HeadAtom S u a
    from a (inl g) = given_head g
    from a (inr (w, here, o)) = let r = own_at S u a l o in own_head r.1 r.2
    from a (inr (w, down p, o)) = let r = own_at S w a (path_end S p) o in reached_head p r.1 r.2

    into : (a : ℕ) → HeadAtom S u a → Has (heads S u) a
    into a (given_head g) = heads_given S u a g
    into a (own_head {r = r} h k) = heads_under S a here (own_has S u r a h k)
    into a (reached_head {v = v} {r = r} p h k) = heads_under S a (down p) (own_has S v r a h k)

pub collects_input_atoms : (S : Units) (u : ℕ) → u < S.units → Collects (InputAtom S u) (input_heads S u)
collects_input_atoms S u l = record { each = λ a h. from a (input_cases S u a l h); all = into }
  where
    from : (a : ℕ) → Has S.given a ⊎ ((v : ℕ) × Edge S u v × Has (heads S v) a) → InputAtom S u a
    from a (inl g) = given_input g
    from a (inr t) = head_input t.1 ((collects_head_atoms S t.0 t.1.is_predecessor).each a t.2)

    into : (a : ℕ) → InputAtom S u a → Has (input_heads S u) a
    into a (given_input g) = input_given S u a g
    into a (head_input {v = v} e h) = input_edge S u v a e ((collects_head_atoms S v e.is_predecessor).all a h)

-- a position cut to H(v) is the cut of the words
pub cut_heads : (S : Units) (v J : ℕ) → v < S.units → Cut S v J (J ∩ heads S v)
cut_heads S v J l = collects_cut (collects_has J) (collects_head_atoms S v l)
