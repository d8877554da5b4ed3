use Rattle.discover_command.proofs.OneAnswerLemmas.{one_answer}
use Rattle.discover_command.proofs.laws.discover_has_one_answer.Goals as goal

pub returns : goal.returns
returns c =
    let reads = c.bytes_are_read_as_a_service_in_one_way.ensures in
    one_answer reads.collections reads.refusals reads.apart
