use Rattle.std.proofs.Common.{◌≡◌, ◌∙◌, sym, ap}
use Rattle.document_server.specs.Serving.{end_of}
use Rattle.document_server.proofs.session.serve.Goals.{in-Ok, in-Err}
use Rattle.document_server.proofs.session.serve.Goals as goal

pub returns : goal.returns
returns g c =
    let ended : c.match-serve_into.end ≡ end_of c.serve_into.result = elim c.match-serve_into.branch [
      | in-Ok w ↦ w.end-is ∙ ap end_of (sym w.in-Ok.is)
      | in-Err w ↦ w.end-is ∙ ap end_of (sym w.in-Err.is)
    ] in
    let all = c.serve_into.ensures in
    rw ended (record {
      serves = all.serves;
      ends = all.ends;
      address = all.address;
      unopened = all.unopened;
      mirror = all.mirror;
      disk_faults = all.disk_faults;
      door_faults = all.door_faults;
    })
