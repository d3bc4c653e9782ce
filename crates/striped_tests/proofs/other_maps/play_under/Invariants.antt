use Rattle.striped_tests.proofs.other_maps.play_under.Given as goal

abbrev pub ghosts-play_locked : goal.ghosts-play_locked
ghosts-play_locked g a = record { name = a.blank.name; parts = a.blank.parts }
