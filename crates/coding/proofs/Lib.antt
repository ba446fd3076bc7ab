pub mod CodingLaws
pub mod RoundTrip
