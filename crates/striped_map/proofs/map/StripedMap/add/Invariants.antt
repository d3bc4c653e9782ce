use Rattle.striped_map.proofs.map.StripedMap.add.Given as goal

abbrev pub ghosts-add_as : goal.ghosts-add_as
ghosts-add_as a = record { what = a.what }
