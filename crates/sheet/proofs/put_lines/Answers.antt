-- `put_lines` meets its contract: the lines of the words passed so far are written.
use Rattle.sheet.proofs.Prelude.{arith, rules, get_or}
use Rattle.sheet.proofs.Face.{put_no_line, put_next_line, length_position_line}
use Rattle.sheet.proofs.put_lines.Goals as goal

pub loop-word-init : goal.loop-word-init
loop-word-init c = search (put_no_line, rules)

pub loop-word-preserved : goal.loop-word-preserved
loop-word-preserved c =
    let word = get_or c.args.words.now c.loop-word.word-index 0 in
    record {
      behind = omega (arith, c.put_line-next.ensures.behind, length_position_line word);
      same = omega arith;
      first = search (put_next_line, rules);
    }
