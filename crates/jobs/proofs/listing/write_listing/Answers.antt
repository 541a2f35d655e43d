use Rattle.std.proofs.Common.{vec_items, string_bytes, ◌∙◌}
use Rattle.std.proofs.lemmas.Result.{on_ok_weaker}
use Rattle.jobs.proofs.Lines.{listing_whole}
use Rattle.jobs.proofs.listing.write_listing.Goals as goal

pub returns : goal.returns
returns c =
    let job = c.args.job.now in
    let lines = c.in_ok-write_lines.ensures in
    on_ok_weaker c.writeln.result (listing_whole job.pages (vec_items job.words) (vec_items job.ticks) c.len.result (string_bytes c.args.text.now) (string_bytes c.write_lines.new.text) (string_bytes c.writeln.new.self) lines.0 (rw c.as_slice.ensures.value at lines.1) lines.2 (c.len.ensures ∙ job.ticks.ok.0)) c.writeln.ensures.bytes
