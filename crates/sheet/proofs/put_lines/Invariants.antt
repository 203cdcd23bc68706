-- The lines of the words passed so far are written.
use Rattle.sheet.proofs.Prelude.{◌+◌, ◌*◌, ◌≡◌, length, take, line_length, position_lines, Put}
use Rattle.sheet.proofs.put_lines.Given as goal

abbrev pub invariant-loop-word : goal.invariant-loop-word
invariant-loop-word l = record {
  behind : l.next ≡ l.at + line_length * l.word-index;
  same : length l.sheet ≡ length l.initial.sheet;
  first : Put (position_lines (take l.word-index l.words)) l.at l.initial.sheet l.sheet l.next;
}
