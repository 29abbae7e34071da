use Rattle.real_maker.proofs.maker.RealMaker.made_door.Goals as goal

pub returns-in-Made-clause-door : goal.returns-in-Made-clause-door
returns-in-Made-clause-door g c = rw c.in-Made.is (λ single fits. c.door_of.ensures.door single fits)

pub returns-in-Later-clause-door : goal.returns-in-Later-clause-door
returns-in-Later-clause-door g c = rw c.in-Later.is (λ single fits. c.door_of-in-Later.ensures.door single fits)
