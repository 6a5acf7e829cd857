pub mod KindSizes
