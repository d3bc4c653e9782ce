use Rattle.thread_tests.proofs.map_tests.threads.play.Given as goal

abbrev pub ghosts-play_under : goal.ghosts-play_under
ghosts-play_under g a = record { name = a.blank.name; parts = a.blank.parts }
