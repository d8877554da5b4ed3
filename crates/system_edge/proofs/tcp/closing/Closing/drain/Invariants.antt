use Rattle.system_edge.proofs.tcp.closing.Closing.drain.Given as goal

-- each turn drops some bytes
abbrev pub decreases-loop-self : goal.decreases-loop-self
decreases-loop-self g l = l.self.room
