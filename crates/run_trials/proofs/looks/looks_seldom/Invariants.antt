use Rattle.run_trials.proofs.looks.looks_seldom.Given as goal

abbrev pub ghosts-count_looks : goal.ghosts-count_looks
ghosts-count_looks g a = record { name = a.blank.name; parts = a.blank.parts }
