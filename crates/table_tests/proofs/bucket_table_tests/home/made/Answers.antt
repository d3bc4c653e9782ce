use Rattle.table_tests.proofs.bucket_table_tests.home.made.Goals as goal

pub returns-in-Store-clause-home : goal.returns-in-Store-clause-home
returns-in-Store-clause-home c = c.init_store.ensures.home _ c.requires.home
