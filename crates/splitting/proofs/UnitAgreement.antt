-- A list depends on the unit's own rules and on those it reaches: heads, inputs and answer sets are the same where two programs
-- agree, whatever numbers the rules have, and so are the lists, along the paths.
use Rattle.splitting.proofs.Prelude.{◌≡◌, sym, ◌∙◌, subst, ◌↔◌, ℕ, ◌<◌, Has, ◌⊆◌, ◌∩◌, below, has_cut, cut_left, cut_right, has_below, below_lt}
use Rattle.splitting.proofs.Prelude.{collects_iff, collects_same, Program, Body, Satisfies, ReductModel, AnswerSet, Units, Holds, Edge, Path, one}
use Rattle.splitting.proofs.Prelude.{more, HeadAtom, given_head, own_head, reached_head, InputAtom, given_input, head_input, Cut, heads, input_heads}
use Rattle.splitting.proofs.Prelude.{collects_head_atoms, collects_input_atoms, Listed, listed, SameRule, SameUnit, Agree}
use Rattle.splitting.proofs.UnitCuts.{numbers, has_number, number_held}

-- ---- the same rules under other numbers

rule_sym : {P Q : Program} {r s : ℕ} → SameRule P Q r s → SameRule Q P s r
rule_sym e = record { head = sym e.head; positive = sym e.positive; rest = λ M. sym (e.rest M) }

body_same : {P Q : Program} {r s : ℕ} (M : ℕ) → SameRule P Q r s → Body P r M → Body Q s M
body_same M e b = record {
  positive_up = subst (λ (x : ℕ). x ⊆ M) e.positive b.positive_up;
  rest_holds = sym (e.rest M) ∙ b.rest_holds;
}

satisfies_same : {P Q : Program} {r s : ℕ} (M : ℕ) → SameRule P Q r s → Satisfies P r M → Satisfies Q s M
satisfies_same M e t = record {
  head_up = λ b.
      let h = t.head_up (body_same M (rule_sym e) b) in
      (h.0, subst (λ (x : ℕ). Has x h.0) e.head h.1, h.2);
}

-- each rule of Q numbered in x is one of P numbered in w
record Among (P Q : Program) (w x : ℕ) : Type 0 where
  find : (s : ℕ) → Has x s → (r : ℕ) × Has w r × SameRule P Q r s

model_same : (P Q : Program) (w x facts M N : ℕ) → Among P Q w x → ReductModel P w facts M N → ReductModel Q x facts M N
model_same P Q w x facts M N f m = record {
  facts_up = m.facts_up;
  each = λ s k.
      let t = f.find s k.numbered in
      satisfies_same N t.2
      (m.each t.0 (record { numbered = t.1; holds = body_same M (rule_sym t.2) k.holds }));
}

answer_same : (P Q : Program) (w x facts M : ℕ) → Among P Q w x → Among Q P x w → AnswerSet P w facts M → AnswerSet Q x facts M
answer_same P Q w x facts M f g s = record {
  model = model_same P Q w x facts M M f s.model;
  minimal = λ N p m. s.minimal N p (model_same Q P x w facts M N g m);
}

-- ---- agreement goes both ways and down the edges

unit_sym : {S T : Units} {w : ℕ} → SameUnit S T w → SameUnit T S w
unit_sym e = record {
  there = λ r h. let t = e.back r h in (t.0, t.1, rule_sym t.2);
  back = λ s h. let t = e.there s h in (t.0, t.1, rule_sym t.2);
  edges = λ v. ((e.edges v).1, (e.edges v).0);
}

agree_edge : {S T : Units} {u v : ℕ} → Agree S T u → Edge S u v → Agree S T v
agree_edge {v = v} g e = record {
  given = g.given;
  here = g.reached v (one e);
  reached = λ w p. g.reached w (more e p);
}

path_back : {S T : Units} {u w : ℕ} → Agree S T u → Path T u w → Path S u w
path_back g (one {v = v} e) = one ((g.here.edges v).1 e)
path_back g (more {v = v} e p) = let d = (g.here.edges v).1 e in more d (path_back (agree_edge g d) p)

pub agree_sym : {S T : Units} {u : ℕ} → Agree S T u → Agree T S u
agree_sym g = record {
  given = sym g.given;
  here = unit_sym g.here;
  reached = λ w p. unit_sym (g.reached w (path_back g p));
}

-- ---- heads, inputs, lists

head_there : {S T : Units} {u a : ℕ} → Agree S T u → HeadAtom S u a → HeadAtom T u a
head_there {a = a} g (given_head h) = given_head (subst (λ (x : ℕ). Has x a) g.given h)
head_there {a = a} g (own_head {r = r} h k) =
    let s = g.here.there r h in
    own_head s.1 (subst (λ (x : ℕ). Has x a) s.2.head k)
head_there {a = a} g (reached_head {v = v} {r = r} p h k) =
    let s = (g.reached v p).there r h in
    reached_head (path_back (agree_sym g) p) s.1 (subst (λ (x : ℕ). Has x a) s.2.head k)

input_there : {S T : Units} {u a : ℕ} → Agree S T u → InputAtom S u a → InputAtom T u a
input_there {a = a} g (given_input h) = given_input (subst (λ (x : ℕ). Has x a) g.given h)
input_there g (head_input {v = v} e h) = head_input ((g.here.edges v).0 e) (head_there (agree_edge g e) h)

cut_there : {S T : Units} {u J K : ℕ} → Agree S T u → Cut S u J K → Cut T u J K
cut_there g c = collects_iff (λ a h. (h.0, head_there g h.1)) (λ a h. (h.0, head_there (agree_sym g) h.1)) c

pub agree_heads : (S T : Units) (u : ℕ) → Agree S T u → u < S.units → u < T.units → heads S u ≡ heads T u
agree_heads S T u g l k =
    collects_same (collects_iff (λ a. head_there g) (λ a. head_there (agree_sym g)) (collects_head_atoms S u l)) (collects_head_atoms T u k)

pub agree_input : (S T : Units) (u : ℕ) → Agree S T u → u < S.units → u < T.units → input_heads S u ≡ input_heads T u
agree_input S T u g l k =
    collects_same (collects_iff (λ a. input_there g) (λ a. input_there (agree_sym g)) (collects_input_atoms S u l)) (collects_input_atoms T u k)

unit_among : (S T : Units) (u : ℕ) → SameUnit S T u → u < S.units → u < T.units
    → Among S.program T.program (numbers S u) (numbers T u)
unit_among S T u e l k = record {
  find = λ s h. let t = e.back s (number_held T u s k h) in (t.0, has_number S u t.0 t.1, t.2);
}

-- a unit whose words are the same, with the same rules under the same numbers
pub same_words : (S T : Units) (w : ℕ) → w < S.units → w < T.units → numbers S w ≡ numbers T w
    → S.predecessors w ∩ below S.units ≡ T.predecessors w ∩ below T.units
    → ((r : ℕ) → Holds S w r → SameRule S.program T.program r r) → SameUnit S T w
same_words S T w l k n p f = record {
  there = λ r h. (r, held S T l k n r h, f r h);
  back = λ r h. let j = held T S k l (sym n) r h in (r, j, f r j);
  edges = λ v. (edge S T l k p v, edge T S k l (sym p) v);
}
  where
    held : (X Y : Units) → w < X.units → w < Y.units → numbers X w ≡ numbers Y w → (r : ℕ) → Holds X w r → Holds Y w r
    held X Y i j e r h = number_held Y w r j (subst (λ (x : ℕ). Has x r) e (has_number X w r h))

    edge : (X Y : Units) → w < X.units → w < Y.units
        → X.predecessors w ∩ below X.units ≡ Y.predecessors w ∩ below Y.units → (v : ℕ) → Edge X w v → Edge Y w v
    edge X Y i j e v h =
        let q : Has (Y.predecessors w ∩ below Y.units) v =
        subst (λ (x : ℕ). Has x v) e
        (has_cut (X.predecessors w) (below X.units) h.edge (has_below X.units v h.is_predecessor)) in
        record {
          is_unit = j;
          is_predecessor = below_lt Y.units (cut_right (Y.predecessors w) (below Y.units) q);
          edge = cut_left (Y.predecessors w) (below Y.units) q;
        }

listed_there : (S T : Units) {u M : ℕ} → Agree S T u → u < S.units → u < T.units → Listed S u M → Listed T u M
listed_there S T {u} {M} g l k (listed {J = J} i w c f s) =
    listed (subst (λ (x : ℕ). x ⊆ J) g.given i) (λ a h. input_there g (w a h))
    (λ v e. let d : Edge S u v = (g.here.edges v).1 e in cut_there (agree_edge g d) (c v d))
    (λ v e.
    let d : Edge S u v = (g.here.edges v).1 e in
    listed_there S T (agree_edge g d) d.is_predecessor e.is_predecessor (f v d))
    (answer_same S.program T.program (numbers S u) (numbers T u) J M (unit_among S T u g.here l k)
    (unit_among T S u (unit_sym g.here) k l) s)

-- two programs that agree on a unit and on what it reaches give it the same list
pub agreement : (S T : Units) (u M : ℕ) → Agree S T u → u < S.units → u < T.units → Listed S u M ↔ Listed T u M
agreement S T u M g l k = (listed_there S T g l k, listed_there T S (agree_sym g) k l)
