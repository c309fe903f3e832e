pub mod KindCases
