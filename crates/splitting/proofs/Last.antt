-- The last list is exactly the set of answer sets of the whole program. The one more unit holds no rule and has an edge to every
-- other and none to it, so the graph passes with it too, and it has every unit under it.
use Rattle.splitting.proofs.Prelude.{◌≡◌, refl, sym, ap, ◌∙◌, subst, Bool, true, false, ◌↔◌, inl, inr, ℕ, ◌<◌, arith, ℕ_discrete, eqb, eq-eqb, ne_eqb}
use Rattle.splitting.proofs.Prelude.{Has, ◌∩◌, below, has_none, cut_left, has_below, below_lt, subset_refl, subset_antisym, AnswerSet, Supported}
use Rattle.splitting.proofs.Prelude.{supported, of_least, Units, Holds, Edge, Path, one, more, LooksOnly, GivenFree, Sees, Passes, heads, input_heads}
use Rattle.splitting.proofs.Prelude.{path_end, Under, here, down, Listed, with_last, Clean, SameRule, SameUnit, Agree}
use Rattle.splitting.proofs.Words.{first_list}
use Rattle.splitting.proofs.Top.{top_list}
use Rattle.splitting.proofs.UnitAgreement.{agreement, agree_heads, agree_input}

-- ---- the words of the units

pick_old : (u n x y : ℕ) → ¬ (u ≡ n) → elim (eqb u n) as (λ b. ℕ) [ true ↦ x | false ↦ y ] ≡ y
pick_old u n x y h = ap (λ (b : Bool). elim b as (λ c. ℕ) [ true ↦ x | false ↦ y ]) (ne_eqb u n h)

pick_last : (n x y : ℕ) → elim (eqb n n) as (λ b. ℕ) [ true ↦ x | false ↦ y ] ≡ x
pick_last n x y = ap (λ (b : Bool). elim b as (λ c. ℕ) [ true ↦ x | false ↦ y ]) (eq-eqb n n refl)

module _ (S : Units) where
  pub old_unit : (u : ℕ) → ¬ (u ≡ S.units) → (with_last S).unit u ≡ S.unit u
  unfolding with_last
  old_unit u h = pick_old u S.units 0 (S.unit u) h

  pub last_unit : (with_last S).unit S.units ≡ 0
  unfolding with_last
  last_unit = pick_last S.units 0 (S.unit S.units)

  pub old_predecessors : (u : ℕ) → ¬ (u ≡ S.units) → (with_last S).predecessors u ≡ S.predecessors u
  unfolding with_last
  old_predecessors u h = pick_old u S.units (below S.units) (S.predecessors u) h

  pub last_predecessors : (with_last S).predecessors S.units ≡ below S.units
  unfolding with_last
  last_predecessors = pick_last S.units (below S.units) (S.predecessors S.units)

  -- ---- what the units hold, and the edges

  pub holds_with_last : (u r : ℕ) → Holds S u r → Holds (with_last S) u r
  unfolding with_last
  holds_with_last u r h = record {
    is_unit = omega (arith, h.is_unit);
    is_rule = h.is_rule;
    holds = subst (λ (x : ℕ). Has x r) (sym (old_unit u (omega (arith, h.is_unit)))) h.holds;
  }

  -- the last unit holds nothing
  pub holds_old : (u r : ℕ) → Holds (with_last S) u r → Holds S u r
  unfolding with_last
  holds_old u r h = go (ℕ_discrete u S.units)
    where
      go : Dec (u ≡ S.units) → Holds S u r
      go (yes e) = absurd (has_none (subst (λ (x : ℕ). Has x r) (ap (with_last S).unit e ∙ last_unit) h.holds))
      go (no n) = record {
        is_unit = omega (arith, h.is_unit);
        is_rule = h.is_rule;
        holds = subst (λ (x : ℕ). Has x r) (old_unit u n) h.holds;
      }

  pub edge_with_last : (u v : ℕ) → Edge S u v → Edge (with_last S) u v
  unfolding with_last
  edge_with_last u v e = record {
    is_unit = omega (arith, e.is_unit);
    is_predecessor = omega (arith, e.is_predecessor);
    edge = subst (λ (x : ℕ). Has x v) (sym (old_predecessors u (omega (arith, e.is_unit)))) e.edge;
  }

  -- "an edge to every unit"
  pub edge_from_last : (v : ℕ) → v < S.units → Edge (with_last S) S.units v
  unfolding with_last
  edge_from_last v l = record {
    is_unit = omega arith;
    is_predecessor = omega arith;
    edge = subst (λ (x : ℕ). Has x v) (sym last_predecessors) (has_below S.units v l);
  }

  sees_with_last : (u s : ℕ) → Sees S u s → Sees (with_last S) u s
  sees_with_last u s (inl h) = inl (holds_with_last u s h)
  sees_with_last u s (inr t) = inr (t.0, edge_with_last u t.0 t.1, holds_with_last t.0 s t.2)

  pub last_under : (w : ℕ) → w < (with_last S).units → Under (with_last S) S.units w
  unfolding with_last
  last_under w l = go (ℕ_discrete w S.units)
    where
      go : Dec (w ≡ S.units) → Under (with_last S) S.units w
      go (yes e) = subst (λ (x : ℕ). Under (with_last S) S.units x) (sym e) here
      go (no n) = down (one (edge_from_last w (omega arith)))

module _ (S : Units) (clean : Clean S) where
  pub edge_old : (u v : ℕ) → u < S.units → Edge (with_last S) u v → Edge S u v
  edge_old u v l e =
      let p : Has (S.predecessors u) v = subst (λ (x : ℕ). Has x v) (old_predecessors S u (omega arith)) e.edge in
      record { is_unit = l; is_predecessor = clean.there u v l p; edge = p }

  -- no edge leads to the last unit
  edge_target : (u v : ℕ) → Edge (with_last S) u v → v < S.units
  unfolding with_last
  edge_target u v e = go (ℕ_discrete u S.units)
    where
      go : Dec (u ≡ S.units) → v < S.units
      go (yes q) =
          below_lt S.units
          (subst (λ (x : ℕ). Has x v) (ap (with_last S).predecessors q ∙ last_predecessors S) e.edge)
      go (no n) = (edge_old u v (omega (arith, e.is_unit)) e).is_predecessor

  path_target : {u w : ℕ} → Path (with_last S) u w → w < S.units
  path_target (one {u = u} {v = v} e) = edge_target u v e
  path_target (more e p) = path_target p

  path_old : {u w : ℕ} → u < S.units → Path (with_last S) u w → Path S u w
  path_old l (one {u = u} {v = v} e) = one (edge_old u v l e)
  path_old l (more {u = u} {v = v} e p) = more (edge_old u v l e) (path_old (edge_target u v e) p)

  -- ---- with the last unit the graph passes too

  pub last_passes : Passes S → Passes (with_last S)
  unfolding with_last
  last_passes pass = record {
    given_free = record { free = pass.given_free.free };
    a = record { placed = λ r l. let t = pass.a.placed r l in (t.0, holds_with_last S t.0 r t.1) };
    b = record { one = λ r a u v p h k. pass.b.one r a u v p (holds_old S u r h) (holds_old S v r k) };
    acyclic = record { no_return = λ u p. pass.acyclic.no_return u (path_old (path_target p) p) };
    c = record {
      seen = λ r s u l d h. sees_with_last S u s
          (pass.c.seen r s u l (record { other = d.other; shared = d.shared }) (holds_old S u r h));
    };
    d = record {
      covered = λ r l.
          let t = pass.d.covered r l in (
            t.0,
            holds_with_last S t.0 r t.1,
            λ s m d.
                sees_with_last S t.0 s (t.2 s m (record { other = d.other; shared = d.shared })),
          );
    };
  }

  -- the other units are as they were
  pub last_agrees : (u : ℕ) → u < S.units → Agree S (with_last S) u
  unfolding with_last
  last_agrees u l = record { given = refl; here = same u l; reached = λ w p. same w (path_end S p) }
    where
      rule : (r : ℕ) → SameRule S.program (with_last S).program r r
      rule r = record { head = refl; positive = refl; rest = λ M. refl }

      same : (w : ℕ) → w < S.units → SameUnit S (with_last S) w
      same w k = record {
        there = λ r h. (r, holds_with_last S w r h, rule r);
        back = λ r h. (r, holds_old S w r h, rule r);
        edges = λ v. (edge_with_last S w v, edge_old w v k);
      }

  pub old_list : (u M : ℕ) → u < S.units → Listed S u M ↔ Listed (with_last S) u M
  unfolding with_last
  old_list u M l = agreement S (with_last S) u M (last_agrees u l) l (omega arith)

  pub old_heads : (u : ℕ) → u < S.units → heads S u ≡ heads (with_last S) u
  unfolding with_last
  old_heads u l = agree_heads S (with_last S) u (last_agrees u l) l (omega arith)

  pub old_input : (u : ℕ) → u < S.units → input_heads S u ≡ input_heads (with_last S) u
  unfolding with_last
  old_input u l = agree_input S (with_last S) u (last_agrees u l) l (omega arith)

pub last_looks : (S : Units) → LooksOnly S → LooksOnly (with_last S)
unfolding with_last
last_looks S looks = record { same = looks.same }

pub last_free : (S : Units) → GivenFree S → GivenFree (with_last S)
unfolding with_last
last_free S free = record { free = free.free }

-- the last list is exactly the set of answer sets of the whole program
pub last_list : (S : Units) → Passes S → LooksOnly S → GivenFree S → Clean S → (M : ℕ)
    → Listed (with_last S) S.units M ↔ AnswerSet S.program (below S.rules) S.given M
unfolding with_last
last_list S pass looks free clean M =
    top_list (with_last S) (last_passes S clean pass) (last_free S free) S.units (omega arith) (last_under S) (last_looks S looks) M

-- with no unit the last list holds the given atoms alone: no rule is left that could add one
pub last_of_none : (S : Units) → S.units ≡ 0 → (M : ℕ) → Listed (with_last S) S.units M ↔ (M ≡ S.given)
unfolding with_last
last_of_none S none M = (λ h. there (first.0 h), λ e. first.1 (subst Settled (sym e) back))
  where
    rules : ℕ
    rules = (with_last S).unit S.units ∩ below S.rules

    Settled : ℕ → Type 0
    Settled N = AnswerSet S.program rules S.given N

    first : Listed (with_last S) S.units M ↔ Settled M
    first = first_list (with_last S) S.units M (λ v e. absurd (omega (arith, edge_from v e)))
      where
        edge_from : (v : ℕ) → Edge (with_last S) S.units v → v < S.units
        edge_from v e = below_lt S.units (subst (λ (x : ℕ). Has x v) (last_predecessors S) e.edge)

    no_rule : (r : ℕ) → ¬ Has rules r
    no_rule r h = has_none (subst (λ (x : ℕ). Has x r) (last_unit S) (cut_left ((with_last S).unit S.units) (below S.rules) h))

    there : Settled M → M ≡ S.given
    there s = subset_antisym (record { each = λ a h. go a (supported S.program rules S.given M a s h) }) s.model.facts_up
      where
        go : (a : ℕ) → Supported S.program rules S.given a → Has S.given a
        go a (inl g) = g
        go a (inr t) = absurd (no_rule t.0 t.1)

    back : Settled S.given
    back =
        of_least S.program rules S.given S.given
        (record { facts_up = subset_refl; each = λ r k. absurd (no_rule r k.numbered) }) (λ N f m. m.facts_up)
