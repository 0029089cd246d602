use Rattle.std.proofs.Common.{rules, ◌≡◌, ap, subst, ◌∙◌, map, vec_items}
use Rattle.std.specs.Fmt.{HasWritten}
use Rattle.std.specs.Iterator.Adapters.{zip_first, zip_second}
use Rattle.std.specs.Slice.Iter.{iter_rest}
use Rattle.rounds.specs.Replays.{moment_of}
use Rattle.journals.specs.Running.{transcript_of}
use Rattle.journals.proofs.Transcripts.{transcript_lines}
use Rattle.journals.proofs.running.TranscriptDisplay.fmt.Goals as goal

-- src/running.rt:28:5
pub returns-clause-writes : goal.returns-clause-writes
returns-clause-writes g c plain always =
    let begun = c.into_iter-shown-iterator.result in
    let shown : iter_rest (zip_first begun) ≡ vec_items c.args.self.now.shown = search rules in
    let moments : iter_rest (zip_second begun) ≡ vec_items c.args.self.now.moments = search rules in
    subst (λ text. HasWritten g.W.Write.write_str_gives c.args.f.now text c.loop-shown.f)
    (transcript_lines c.loop-shown.yielded begun c.loop-shown.shown-iterator c.next.new.self c.next.result c.loop-shown.yielded_by c.in-None.is c.next.ensures.steps
    ∙ ap (λ l. transcript_of l (map moment_of (iter_rest (zip_second begun)))) shown
    ∙ ap (λ l. transcript_of (vec_items c.args.self.now.shown) (map moment_of l)) moments)
    (c.loop-shown.invariant plain)
