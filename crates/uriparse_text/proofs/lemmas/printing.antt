pub mod WriterLemmas
