pub mod CountLemmas
pub mod SinkLemmas
pub mod KnownBytesLemmas
