use Rattle.std.proofs.Common.{◌≡◌, ◌∙◌, codes, false, inl, refl, rules, sym, true≢false}
use Rattle.std.specs.Str.{bytes_eq}
use Rattle.registry_program.proofs.replaying.run_replay.Goals as goal

pub returns-in-Ok : goal.returns-in-Ok
returns-in-Ok g c out =
    let other : bytes_eq c.args.file.now (codes "-") ≡ false = search rules in
    record {
      standard = λ is. absurd (true≢false (sym is ∙ other));
      named = λ _. (refl, inl (c.open_input.new.self, c.in-Ok.source, c.replay_source-in-Ok.new.source, c.in-Ok.ensures.opened, c.replay_source-in-Ok.ensures out));
    }
