use Rattle.thread_tests.proofs.devices.is_played.Given as goal

abbrev pub ghosts-play_under : goal.ghosts-play_under
ghosts-play_under g a = record { name = a.blank.name; parts = a.blank.parts }
