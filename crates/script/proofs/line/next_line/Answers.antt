use Rattle.std.proofs.Common.{◌∙◌, sym, rules}
use Rattle.script.proofs.LineFacts.{line_from}
use Rattle.script.proofs.line.next_line.Goals as goal

pub returns : goal.returns
returns c =
    let within = c.in_ok-rest.ensures.lookup.0 in
    let there = line_from c.args.script.now c.args.start c.in_ok-rest.rest.now within.2 c.in_ok-len.len within.0 (sym c.line_len.ensures ∙ c.in_ok-len.was) in
    search rules
