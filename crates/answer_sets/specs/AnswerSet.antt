-- Answer sets, as document 004, Definition 2 has them for ground rules. `which` is the word of the program's rule numbers;
-- the atoms of `facts` are its facts: rules of one head atom and no body, which every reduct keeps.
use Rattle.std.specs.Prelude.{ℕ}
use Rattle.atoms.specs.Word.{Has, ◌⊆◌, ◌⊂◌}
use Rattle.answer_sets.specs.Program.{Program, Body, Satisfies}

-- "the reduct at M keeps the rules whose body holds at M"
pub record Kept (P : Program) (which M r : ℕ) : Type 0 where
  pub numbered : Has which r
  pub holds : Body P r M

-- N satisfies the facts and each rule kept at M, its body evaluated at N
pub record ReductModel (P : Program) (which facts M N : ℕ) : Type 0 where
  pub facts_up : facts ⊆ N
  pub each : (r : ℕ) → Kept P which M r → Satisfies P r N

-- "M is an answer set exactly if M satisfies all kept rules and no proper subset of M does."
pub record AnswerSet (P : Program) (which facts M : ℕ) : Type 0 where
  pub model : ReductModel P which facts M M
  pub minimal : (N : ℕ) → N ⊂ M → ¬ ReductModel P which facts M N
