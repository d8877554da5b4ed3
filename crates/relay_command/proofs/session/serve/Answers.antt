use Rattle.std.proofs.Common.{◌≡◌, ◌∙◌, sym, ap}
use Rattle.relay_command.specs.Session.{end_of}
use Rattle.relay_command.proofs.session.serve.Goals.{in-Ok, in-Err}
use Rattle.relay_command.proofs.session.serve.Goals as goal

pub returns : goal.returns
returns g c =
    let ended : c.match-load_and_serve.end ≡ end_of c.load_and_serve.result = elim c.match-load_and_serve.branch [
      | in-Ok w ↦ w.end-is ∙ ap end_of (sym w.in-Ok.is)
      | in-Err w ↦ w.end-is ∙ ap end_of (sym w.in-Err.is)
    ] in
    let all = c.load_and_serve.ensures in
    rw ended (record {
      relays = all.relays;
      ends = all.ends;
      unopened = all.unopened;
      load = all.load;
      area = all.area;
      others = all.others;
      address = all.address;
      disk_faults = all.disk_faults;
      door_faults = all.door_faults;
    })
