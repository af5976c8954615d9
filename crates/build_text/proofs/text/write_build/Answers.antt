use Rattle.std.proofs.Common.{◌≡◌, ◌+◌, ◌∙◌, arith, length, rules, sym}
use Rattle.build_text.specs.Build.{entries_from}
use Rattle.build_text.specs.Words.{text_parts}
use Rattle.build_text.proofs.Building.{build_end, build_line_read, build_stops}
use Rattle.build_text.proofs.text.write_build.Goals as goal

pub loop-rest-preserved : goal.loop-rest-preserved
loop-rest-preserved g c =
    let fits = g.W.EntryWriter.fits in
    let entries = g.W.EntryWriter.entries in
    let shorter = c.in-Some.ensures.shorter in
    record {
      counted = omega (arith, shorter);
      read = build_line_read fits (entries c.loop-rest.writer) (entries c.write_line.new.writer) (c.loop-rest.number + 1) c.loop-rest.rest.now c.in-Some.line.now c.in-Some.after.now c.in-Ok.ensures c.in-Some.ensures.parts
          ∙ c.loop-rest.invariant.read;
    }

pub returns-in-Err : goal.returns-in-Err
returns-in-Err g c =
    let fits = g.W.EntryWriter.fits in
    let entries = g.W.EntryWriter.entries in
    build_stops fits (Unit {0}) (entries c.loop-rest.writer) (entries c.write_line.new.writer) (entries c.write_line.new.writer) (c.loop-rest.number + 1) c.in-Err.fault c.loop-rest.rest.now c.in-Some.line.now c.in-Some.after.now
    (entries_from fits (entries c.args.writer.now) 1 (text_parts c.args.text.now)) c.in-Err.ensures c.in-Some.ensures.parts c.loop-rest.invariant.read

pub returns : goal.returns
returns g c =
    let fits = g.W.EntryWriter.fits in
    let entries = g.W.EntryWriter.entries in
    let none : length c.loop-rest.rest.now ≡ 0 = search rules in
    sym c.loop-rest.invariant.read ∙ build_end fits (entries c.loop-rest.writer) (c.loop-rest.number + 1) c.loop-rest.rest.now none
