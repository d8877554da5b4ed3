-- id_of, number_of
pub mod IdLemmas
