-- What a unit sees of the rules that it holds, if the graph passes: own head atoms belong to one unit only, and the atoms that a
-- body asks for stand in the heads of the unit, so a body says the same of a position and of the position cut to those heads.
-- The conditions give an edge for each dependence; edges both ways would be a cycle.
use Rattle.dependency_graph.proofs.Prelude.{◌≡◌, sym, ◌∙◌, subst, subst₂, ◌↔◌, ◌⊎◌, inl, inr, ℕ, ◌<◌, ℕ_discrete, Has, Apart, ◌⊆◌, ◌∩◌, has_cut}
use Rattle.dependency_graph.proofs.Prelude.{cut_left, Units, Holds, Edge, Path, one, more, LooksOnly, GivenFree, Sees, Passes, own, heads, input_heads}
use Rattle.answer_sets.specs.Program.{Body}
use Rattle.dependency_graph.proofs.Heads.{own_has, own_at, heads_given, heads_own, heads_edge, input_cases}
use Rattle.dependency_graph.proofs.Under.{Under, under_edge, under_unit, heads_source}

-- ---- what can be up at all

-- an atom is given or in the head of some rule
abbrev pub Headed : Units → ℕ → Type 0
Headed S a = Has S.given a ⊎ ((r : ℕ) × (r < S.rules) × Has (S.program.head r) a)

-- M has only such atoms
pub record AllHeaded (S : Units) (M : ℕ) : Type 0 where
  pub each : (a : ℕ) → Has M a → Headed S a

pub headed_subset : (S : Units) {N M : ℕ} → N ⊆ M → AllHeaded S M → AllHeaded S N
headed_subset S f g = record { each = λ a h. g.each a (f.each a h) }

-- u holds r, and the heads of u have each positive atom of r that can be up
pub record Covers (S : Units) (u r : ℕ) : Type 0 where
  pub holds : Holds S u r
  pub positive : (a : ℕ) → Has (S.program.positive r) a → Headed S a → Has (heads S u) a

-- a unit that holds a rule has its head atoms among its heads
pub held_heads : (S : Units) (u r a : ℕ) → Holds S u r → Has (S.program.head r) a → Has (heads S u) a
held_heads S u r a h p = heads_own S u a (own_has S u r a h p)

-- and so has a unit that sees it
sees_heads : (S : Units) (u s a : ℕ) → Sees S u s → Has (S.program.head s) a → Has (heads S u) a
sees_heads S u s a (inl h) p = held_heads S u s a h p
sees_heads S u s a (inr t) p = heads_edge S u t.0 a t.1 (held_heads S t.0 s a t.2 p)

-- an atom that can be up is in the heads of a unit that holds r and sees each other rule with the atom in its head
headed_seen : (S : Units) (u r a : ℕ) → Holds S u r
    → ((s : ℕ) → s < S.rules → ¬ (r ≡ s) → Has (S.program.head s) a → Sees S u s) → Headed S a → Has (heads S u) a
headed_seen S u r a h f (inl g) = heads_given S u a g
headed_seen S u r a h f (inr t) = go (ℕ_discrete r t.0)
  where
    go : Dec (r ≡ t.0) → Has (heads S u) a
    go (yes e) = held_heads S u r a h (subst (λ (s : ℕ). Has (S.program.head s) a) (sym e) t.2)
    go (no e) = sees_heads S u t.0 a (f t.0 t.1 e t.2) t.2

module _ (S : Units) (pass : Passes S) where
  -- ---- own head atoms belong to one unit

  -- rules of two units that share a head atom: the unit of the first is the other's or has an edge to it
  head_edge : (u w r s a : ℕ) → Holds S u r → Holds S w s → Has (S.program.head r) a → Has (S.program.head s) a
      → (u ≡ w) ⊎ Edge S u w
  head_edge u w r s a h k p q = go (ℕ_discrete r s)
    where
      seen : (v : ℕ) → v ≡ u → Sees S v s → (u ≡ w) ⊎ Edge S u w
      seen v e (inl j) = inl (sym e ∙ pass.b.one s a v w q j k)
      seen v e (inr t) =
          inr (subst₂ (λ (x y : ℕ). Edge S x y) e (pass.b.one s a t.0 w q t.2 k) t.1)

      go : Dec (r ≡ s) → (u ≡ w) ⊎ Edge S u w
      go (yes e) = inl (pass.b.one r a u w p h (subst (λ (x : ℕ). Holds S w x) (sym e) k))
      go (no e) =
          let t = pass.d.covered r h.is_rule in
          seen t.0 (pass.b.one r a t.0 u p t.1 h)
          (t.2 s k.is_rule (record { other = e; shared = inr (record { atom = a; left = p; right = q }) }))

  pub own_unique : (u w a : ℕ) → u < S.units → w < S.units → Has (own S u) a → Has (own S w) a → u ≡ w
  own_unique u w a l m p q = go (own_at S u a l p) (own_at S w a m q)
    where
      cycle : (u ≡ w) ⊎ Edge S u w → (w ≡ u) ⊎ Edge S w u → u ≡ w
      cycle (inl e) f = e
      cycle (inr e) (inl f) = sym f
      cycle (inr e) (inr f) = absurd (pass.acyclic.no_return u (more e (one f)))

      go : (r : ℕ) × Holds S u r × Has (S.program.head r) a → (s : ℕ) × Holds S w s × Has (S.program.head s) a → u ≡ w
      go x y =
          cycle (head_edge u w x.0 y.0 a x.1 y.1 x.2 y.2)
          (head_edge w u y.0 x.0 a y.1 x.1 y.2 x.2)

  -- no unit gets its own head atoms as input
  pub own_apart : GivenFree S → (u : ℕ) → u < S.units → Apart (own S u) (input_heads S u)
  own_apart free u l = record { none = λ a p q. go a p (input_cases S u a l q) }
    where
      not_given : (a : ℕ) → Has (own S u) a → ¬ Has S.given a
      not_given a p = let t = own_at S u a l p in free.free t.0 a t.1.is_rule t.2

      not_reached : (v a : ℕ) → Edge S u v → Has (own S u) a
          → ¬ (Has S.given a ⊎ ((w : ℕ) × Under S v w × Has (own S w) a))
      not_reached v a e p (inl g) = not_given a p g
      not_reached v a e p (inr t) =
          let x : u ≡ t.0 = own_unique u t.0 a l (under_unit S e.is_predecessor t.1) p t.2 in
          pass.acyclic.no_return u (subst (λ (w : ℕ). Path S u w) (sym x) (under_edge S e t.1))

      go : (a : ℕ) → Has (own S u) a → ¬ (Has S.given a ⊎ ((v : ℕ) × Edge S u v × Has (heads S v) a))
      go a p (inl g) = not_given a p g
      go a p (inr t) = not_reached t.0 a t.1 p (heads_source S t.0 a t.1.is_predecessor t.2)

  -- ---- the atoms that a body asks for

  -- an atom that the rest of a body looks at and that can be up is in the heads of every unit that holds the rule
  pub looks_seen : (u r a : ℕ) → Holds S u r → Has (S.looks r) a → Headed S a → Has (heads S u) a
  looks_seen u r a h p =
      headed_seen S u r a h
      (λ s l e q. pass.c.seen r s u l (record { other = e; shared = record { atom = a; left = p; right = q } }) h)

  -- each rule has a unit that covers it
  pub covered : (r : ℕ) → r < S.rules → (u : ℕ) × Covers S u r
  covered r l =
      let t = pass.d.covered r l in (
        t.0,
        record {
          holds = t.1;
          positive = λ a p. headed_seen S t.0 r a t.1
              (λ s m e q. t.2 s m (record { other = e; shared = inl (record { atom = a; left = p; right = q }) }));
        },
      )

  -- and a rule with a head, which is in one unit only, is covered there
  pub headed_covers : (u r h : ℕ) → Has (S.program.head r) h → Holds S u r → Covers S u r
  headed_covers u r h p k =
      let t = covered r k.is_rule in
      subst (λ (v : ℕ). Covers S v r) (pass.b.one r h t.0 u p t.1.holds k) t.1

  -- ---- bodies

  module _ (looks : LooksOnly S) where
    rest_same : (u r M : ℕ) → AllHeaded S M → Holds S u r
        → S.program.rest r (M ∩ heads S u) ≡ S.program.rest r M
    rest_same u r M f h =
        looks.same r (M ∩ heads S u) M
        (λ a p. (cut_left M (heads S u), λ m. has_cut M (heads S u) m (looks_seen u r a h p (f.each a m))))

    -- a body that holds at M cut to the heads of a unit that holds the rule, holds at M
    pub body_up : (u r M : ℕ) → AllHeaded S M → Holds S u r → Body S.program r (M ∩ heads S u) → Body S.program r M
    body_up u r M f h b = record {
      positive_up = record { each = λ a p. cut_left M (heads S u) (b.positive_up.each a p) };
      rest_holds = sym (rest_same u r M f h) ∙ b.rest_holds;
    }

    -- and back for a unit that covers it
    pub body_down : (u r M : ℕ) → AllHeaded S M → Covers S u r → Body S.program r M → Body S.program r (M ∩ heads S u)
    body_down u r M f k b = record {
      positive_up = record {
        each = λ a p. let m = b.positive_up.each a p in has_cut M (heads S u) m (k.positive a p (f.each a m));
      };
      rest_holds = rest_same u r M f k.holds ∙ b.rest_holds;
    }

    pub body_cut : (u r M : ℕ) → AllHeaded S M → Covers S u r
        → Body S.program r M ↔ Body S.program r (M ∩ heads S u)
    body_cut u r M f k = (body_down u r M f k, body_up u r M f k.holds)
