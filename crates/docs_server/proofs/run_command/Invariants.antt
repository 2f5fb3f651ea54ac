use Rattle.docs_server.proofs.run_command.Given as goal

abbrev pub ghosts-run_demo : goal.ghosts-run_demo
ghosts-run_demo g a = record { name = a.blank.name; parts = a.blank.parts }

abbrev pub ghosts-run_check : goal.ghosts-run_check
ghosts-run_check g a = record { name = a.blank.name; parts = a.blank.parts }

abbrev pub ghosts-run_replay : goal.ghosts-run_replay
ghosts-run_replay g a = record { name = a.blank.name; parts = a.blank.parts }

abbrev pub ghosts-run_serve : goal.ghosts-run_serve
ghosts-run_serve g a = record { name = a.blank.name; parts = a.blank.parts }

abbrev pub ghosts-run_listen : goal.ghosts-run_listen
ghosts-run_listen g a = record { name = a.blank.name; parts = a.blank.parts }
