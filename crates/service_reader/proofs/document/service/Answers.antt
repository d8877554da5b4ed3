use Rattle.std.proofs.Common.{[]}
use Rattle.service_reader.specs.Service.{collections_of}
use Rattle.service_reader.proofs.document.service.Goals as goal

pub returns-in-Err-clause-read : goal.returns-in-Err-clause-read
returns-in-Err-clause-read c = λ from at. c.in-Err.ensures.read from at

pub returns-clause-read : goal.returns-clause-read
returns-clause-read c = λ from at.
    let address = c.args.address.now in
    let y = c.in_default.ensures.read from at in (
      y.0,
      y.1,
      y.2,
      y.3,
      y.4,
      c.collections.ensures address (collections_of y.0) (y.5 [] (c.new-found.ensures address)),
    )
