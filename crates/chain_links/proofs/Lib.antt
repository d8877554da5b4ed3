-- Base::print, Base::print_into, Base::printed_len, Base::read
pub mod AddressLemmas
-- Base::checked
pub mod AsciiLemmas
-- Base::parse
pub mod BaseLemmas
-- Base::parse: the host
pub mod HostLemmas
-- whole_number, Base::parse: the port
pub mod NumberLemmas
-- Base::host, Base::port, Base::path
pub mod PartOffsetLemmas
-- Base::parse: the path
pub mod PathLemmas
-- Base::text: the clause `one_reading`
pub mod ReadingLemmas
-- Base::text: labels and segments are read in one way
pub mod SplitLemmas
-- Base::read_target: a target names one address
pub mod TargetLemmas
